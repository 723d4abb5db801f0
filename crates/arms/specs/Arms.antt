-- Definitions. What is kept of a block as an arm or as a core, and the core with arms joined to it one by one, by the joining rules, whatever is kept.
use Rattle.std.specs.Prelude.{ℕ, zero, suc, ◌<◌, List, [], ◌∷◌, ◌≡◌, refl, get_or, replicate}
use Rattle.std.proofs.Common.{arith}
use Rattle.block.specs.Rows.{table}
use Rattle.block.specs.declared.Indices.{Indices}
use Rattle.block.specs.declared.Vertex.{Vertex}
use Rattle.assembly.specs.Book.{find, bond_bytes}
use Rattle.assembly.specs.declared.BlockAt.{BlockAt}
use Rattle.sighted.specs.Sighted.{steps_in}
use Rattle.summary.specs.Layout.{summary_bytes, stored_fields, seen_at, vertex_at}
use Rattle.filling.specs.Reply.{fill_bytes}
use Rattle.joining.specs.Joining.{grown_of, joined_of}
use Rattle.arms.specs.declared.Arm.{Arm}
use Rattle.arms.specs.declared.Core.{Core}
use Rattle.arms.specs.declared.Port.{Port}
use Rattle.arms.specs.declared.Stem.{Stem}

abbrev pub most_arms : ℕ
most_arms = 4

abbrev pub no_vertex : Vertex
no_vertex = record { sum = 0; even = 0; odd = 0; evens = 0; odds = 0; ones = 0; twos = 0; farthest = 0 }

abbrev pub no_arm : Arm
no_arm = record { six = record { atoms = 0; w = 0; even = 0; odd = 0; polarity = 0; largest = 0 }; end = no_vertex }

abbrev pub no_port : Port
no_port = record { counts = no_vertex; near = [] }

-- an arm in a row of numbers, and back
abbrev pub arm_row : Arm → List ℕ
arm_row a = let x = a.six in let v = a.end in
    x.atoms ∷ x.w ∷ x.even ∷ x.odd ∷ x.polarity ∷ x.largest ∷ v.sum ∷ v.even ∷ v.odd ∷ v.evens ∷ v.odds ∷ v.ones ∷ v.twos ∷ v.farthest ∷ []

abbrev pub row_arm : List ℕ → Arm
row_arm r = record {
  six = record { atoms = get_or r 0 0; w = get_or r 1 0; even = get_or r 2 0; odd = get_or r 3 0; polarity = get_or r 4 0; largest = get_or r 5 0 };
  end = record {
    sum = get_or r 6 0;
    even = get_or r 7 0;
    odd = get_or r 8 0;
    evens = get_or r 9 0;
    odds = get_or r 10 0;
    ones = get_or r 11 0;
    twos = get_or r 12 0;
    farthest = get_or r 13 0;
  };
}

-- of a block's summary, whatever its bytes are
abbrev pub arm_in : List ℕ → ℕ → Arm
arm_in s a = record { six = stored_fields s; end = vertex_at s a }

-- one of the atoms where arms join: the numbers of steps to all of them by its row, and with them what is counted from it
unfoldable pub ports_near : List ℕ → List ℕ → List ℕ
ports_near row atoms = table most_arms (λ j. steps_in row (get_or atoms j 0))

unfoldable pub port_in : List ℕ → List ℕ → ℕ → Port
port_in s atoms a = record { counts = vertex_at s a; near = ports_near (seen_at s a).row atoms }

unfoldable pub core_in : List ℕ → List ℕ → Core
core_in s atoms = record { six = stored_fields s; ends = table most_arms (λ k. port_in s atoms (get_or atoms k 0)) }

-- a block opened under a number into an empty place, which stays empty where the block is refused; and the one that has a number
unfoldable pub opened : ℕ → ℕ → List ℕ → List ℕ
opened number n bonds = fill_bytes number n bonds (replicate summary_bytes 0)

abbrev pub opened_of : List ℕ → List BlockAt → ℕ → List ℕ
opened_of d bs x = let b = find bs x in opened b.number b.atoms (bond_bytes d b)

-- what is counted from the atom of arm k once the first m arms are joined, v being counted before
unfoldable pub sight_from : List Port → List Arm → ℕ → Vertex → ℕ → Vertex
sight_from ends arms k v zero = v
sight_from ends arms k v (suc m) = grown_of (sight_from ends arms k v m) (get_or (get_or ends m no_port).near k 0) (get_or arms m no_arm).end

abbrev pub sight_at : List Port → List Arm → ℕ → ℕ → Vertex
sight_at ends arms m k = sight_from ends arms k (get_or ends k no_port).counts m

-- Of a core with its first m arms: what is counted from the atom of arm k, and the six fields.
module _ (core : Core) (arms : List Arm) where
  abbrev pub sight_of : ℕ → ℕ → Vertex
  sight_of m k = sight_at core.ends arms m k

  unfoldable pub six_of : ℕ → Indices
  six_of zero = core.six
  six_of (suc m) = joined_of (six_of m) (get_or arms m no_arm).six (sight_of m m) (get_or arms m no_arm).end

  abbrev pub stem_of : ℕ → Stem
  stem_of m = record { six = six_of m; from = sight_of m m }

-- the fields with one arm more
abbrev pub joined_to : Stem → Arm → Indices
joined_to s a = joined_of s.six a.six s.from a.end

-- The first arms alone say what the core with them is.
pub sight_kept : (ends : List Port) (as' bs : List Arm) (b : ℕ) (v : Vertex) (m : ℕ) → ((i : ℕ) → i < m → get_or as' i no_arm ≡ get_or bs i no_arm) → sight_from ends as' b v m ≡ sight_from ends bs b v m
unfolding sight_from
sight_kept ends as' bs b v zero h = refl
sight_kept ends as' bs b v (suc m) h = rw (sight_kept ends as' bs b v m (λ i l. h i (omega arith)), h m (omega arith))

pub six_kept : (c : Core) (as' bs : List Arm) (m : ℕ) → ((i : ℕ) → i < m → get_or as' i no_arm ≡ get_or bs i no_arm) → six_of c as' m ≡ six_of c bs m
unfolding six_of
six_kept c as' bs zero h = refl
six_kept c as' bs (suc m) h =
    rw (six_kept c as' bs m (λ i l. h i (omega arith)), sight_kept c.ends as' bs m (get_or c.ends m no_port).counts m (λ i l. h i (omega arith)), h m (omega arith))

-- ONE ARM MORE: what the first m arms are joined to, with any arm
pub stem_joined : (c : Core) (as' bs : List Arm) (m : ℕ) → ((i : ℕ) → i < m → get_or as' i no_arm ≡ get_or bs i no_arm) → joined_to (stem_of c as' m) (get_or bs m no_arm) ≡ six_of c bs (suc m)
unfolding six_of
stem_joined c as' bs m h =
    rw (six_kept c as' bs m h, sight_kept c.ends as' bs m (get_or c.ends m no_port).counts m h)
