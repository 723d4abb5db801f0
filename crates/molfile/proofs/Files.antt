-- Laws. What the lists of a file hold once its lines are read. Assumes nothing.
use Prim.Native.Nat.{ℕ, ◌<◌}
use mathlib.Core.Bool.{Bool}
use mathlib.Core.List.{List}
use mathlib.Core.Path.{◌≡◌}
use Rattle.graph.specs.Graph.{Bond, Within}
use Rattle.reply.specs.Read.{read}
use Rattle.molfile.specs.Molfile.{atom_line_count, bond_line_place, bond_line_count, bond_of_line, hydrogen_in, bond_reply_of, is_dropped}
use Rattle.molfile.specs.Work.{Marks, Ends, lists_reply, EndsInside, MarksGiven, KeepsBonds}
use Rattle.molfile.specs.declared.Kept.{Kept}
use Rattle.molfile.proofs.Turns.{turn_at}
use Rattle.molfile.proofs.Lines.{bond_within, bond_is}
use Rattle.molfile.proofs.Chains.{lists_there}

-- each bond line ends at atoms of the list
pub ends_within : (d : List ℕ) → lists_reply d ≡ read tt → (k : ℕ) → k < bond_line_count d → Within (atom_line_count d) (bond_of_line d k).one × Within (atom_line_count d) (bond_of_line d k).two
ends_within d e k h = rw (bond_is d k) (bond_within (atom_line_count d) d (bond_line_place d k) (turn_at (bond_reply_of d) (bond_line_count d) k (lists_there d e).1 h))

module _ (d marks ones twos : List ℕ) (e : lists_reply d ≡ read tt) (M : Marks d (atom_line_count d) marks) (E : Ends d (bond_line_count d) ones twos) where
  pub given_is : MarksGiven (hydrogen_in d) (bond_of_line d) (atom_line_count d) (bond_line_count d) marks ones twos
  unfolding hydrogen_in
  given_is = record { mark = M.at; one = E.one; two = E.two; within = ends_within d e }

  pub inside_is : {n m : ℕ} → n ≡ atom_line_count d → m ≡ bond_line_count d → EndsInside n m ones twos
  inside_is p q = rw (p, q) (record { one = λ k h. rw (E.one k h) (ends_within d e k h).0; two = λ k h. rw (E.two k h) (ends_within d e k h).1 })

pub keeps_at : (h : ℕ → Bool) (f : ℕ → Bond) {marks ones twos out after : List ℕ} {r : Kept} {n m n' m' : ℕ} → n ≡ n' → m ≡ m'
    → ((h : ℕ → Bool) (f : ℕ → Bond) → MarksGiven h f n m marks ones twos → KeepsBonds (is_dropped h f m) f n m out after r)
    → MarksGiven h f n' m' marks ones twos → KeepsBonds (is_dropped h f m') f n' m' out after r
keeps_at h f p q k = rw (← p, ← q) (k h f)
