-- One bond farther after the other: what holds before each turn, and what is found in the end. Assumes nothing.
use Prim.Native.Nat.{ℕ, suc, ◌+◌, ◌-◌, ◌*◌, ◌/◌, ◌%◌, ◌≤◌, ◌<◌}
use mathlib.Core.Bool.{true}
use mathlib.Core.List.{List}
use mathlib.Core.Path.{◌≡◌, refl, sym, ap, ap₂, subst, ◌∙◌}
use native.Mathlib.Nat.{mul-le-mul, le_refl}
use native.Mathlib.Decide.{ℕ_discrete}
use native.Mathlib.Numerals.{add-one}
use native.Mathlib.Omega.{arith}
use borrow.Author.Tests.{eq-eqb, ne_eqb}
use lib.ListN.{length, get_or}
use Rattle.graph.specs.Graph.{Graph, Within, Sound, Molecule, connected, distance, total, itself, each, even_of, odd_of, is_at}
use Rattle.graph.specs.Farthest.{largest}
use Rattle.graph.specs.Bounds.{tame_odd, tame_at}
use Rattle.graph.specs.Parts.{parts_of}
use Rattle.graph.specs.Connected.{connected_molecule}
use Rattle.graph.specs.Sums.{sum_pairs_add, sum_pairs_cong}
use Rattle.reply.specs.Read.{read, refusal, as_result}
use Rattle.reply.specs.declared.Refusal.{Refusal}
use Rattle.block.specs.Block.{most_atoms, graph_of, drawn_reply}
use Rattle.block.specs.Index.{indices_of, indices_reply}
use Rattle.block.specs.Opened.{neighbours_of}
use Rattle.block.specs.Told.{block_drawn, drawn_atoms, drawn_sound}
use Rattle.block.specs.declared.Indices.{Indices}
use Rattle.reach.specs.Reach.{WithNeighbours, Reach, Inner, Spread, of_level, AllNext, LowSums, Room, Added, Reached, LevelsUpTo, first_level, up_to, farther_of, halved}
use Rattle.reach.specs.declared.Both.{Both}
use Rattle.reach.proofs.Beginning.{first_below, first_deep, reach_first, up_first, first_wanting}
use Rattle.reach.proofs.Meeting.{next_all}
use Rattle.reach.proofs.Spreading.{reach_inner}
use Rattle.reach.proofs.Summing.{up_next, up_most, up_more, up_all, all_met, met_all, deeper, apart, room, all_connected, last_is, one_farther, count_reach}
use Rattle.std.specs.Prelude.{Result, Ok, Err}

pub record Level (n : ℕ) (xs : List ℕ) (k : ℕ) (near sets reached : List ℕ) (s : Both) (met d : ℕ) : Type 0 where
  pub reach : Reach (graph_of n xs) d near
  pub inner : Inner (graph_of n xs) d sets
  pub upto : LevelsUpTo (graph_of n xs) d met s
  pub counts : Reached (graph_of n xs) (first_level xs) k d reached

-- what holds of both tables holds of that of a level; and at the next level they change roles
of_either : (P : List ℕ → Type 0) (d : ℕ) {odd even : List ℕ} → P odd → P even → P (of_level d odd even)
of_either P d x y = elim (ℕ_discrete (d % 2) 0) [ yes e ↦ rw (eq-eqb (d % 2) 0 e) y | no e ↦ rw (ne_eqb (d % 2) 0 e) x ]

pub of_next : (d : ℕ) (odd even : List ℕ) → of_level (d + 1) odd even ≡ of_level d even odd
of_next d odd even = elim (ℕ_discrete (d % 2) 0) [
  | yes e ↦ rw (eq-eqb (d % 2) 0 e, ne_eqb ((d + 1) % 2) 0 (omega arith))
  | no e ↦ rw (ne_eqb (d % 2) 0 e, eq-eqb ((d + 1) % 2) 0 (omega arith))
]

cube : {n c : ℕ} → n ≤ most_atoms → c ≤ most_atoms → n * (n * c) ≤ most_atoms * (most_atoms * most_atoms)
cube l h = mul-le-mul l (mul-le-mul l h)

-- x more pairs, f for each
gain : (f u v m x : ℕ) → v + f * m ≡ u + f * (m + x) → u + f * x ≡ v
gain f u v m x e = omega arith

module _ (n : ℕ) (xs : List ℕ) (drawn : drawn_reply n xs ≡ read tt) where
  abbrev g : Graph
  g = graph_of n xs

  pub few : Within most_atoms n
  few = drawn_atoms n xs drawn

  sound : Sound g
  sound = drawn_sound n xs drawn

  pub level_start : (k : ℕ) {near odd even : List ℕ} (reached : List ℕ) → near ≡ neighbours_of g → k ≤ n → WithNeighbours n near odd × WithNeighbours n near even → ((p : ℕ) → get_or reached p 0 ≡ 0)
      → Level n xs k (of_level (first_level xs) odd even) (of_level (first_level xs) even odd) reached (record { all = length xs; odd = length xs; threes = 0 }) (n + length xs) (first_level xs)
  unfolding odd_of is_at
  level_start k {near} {odd} {even} reached e h (J, K) none = record {
    reach = reach_first n xs drawn near (of_level (first_level xs) odd even) e (of_either (WithNeighbours n near) (first_level xs) J K);
    inner = reach_inner sound (le_refl (first_level xs)) (reach_first n xs drawn near (of_level (first_level xs) even odd) e (of_either (WithNeighbours n near) (first_level xs) K J));
    upto = record {
      all_is = omega (arith, up_first n xs drawn itself);
      odd_is = omega (arith, up_first n xs drawn odd_of);
      threes_is = omega (arith, up_first n xs drawn (is_at 3));
      met_is = omega (arith, up_first n xs drawn each);
      below = first_below n xs drawn;
      deep = first_deep n xs drawn;
    };
    counts = record { wanting = λ v w. omega (arith, none (v - 1), first_wanting n xs drawn v (omega arith)); behind = λ p l. none p };
  }

  module _ {k : ℕ} {near sets reached : List ℕ} {s : Both} {met d : ℕ} (L : Level n xs k near sets reached s met d) where
    module _ (more : met < n * n) where
      pub shallow : suc d < n
      shallow = room g sound d L.upto.below L.upto.deep (omega (arith, L.upto.met_is))

      abbrev deepest : d ≤ 63
      deepest = omega (arith, shallow, few)

      pub low : LowSums s
      low = record {
        all_low = omega (arith, L.upto.all_is, up_most g itself d most_atoms (λ x l. omega (arith, deepest)), cube {n = n} {c = most_atoms} few.high (le_refl most_atoms));
        odd_low = omega (arith, L.upto.odd_is, up_most g odd_of d most_atoms (λ x l. omega (arith, deepest, tame_odd.tame x)), cube {n = n} {c = most_atoms} few.high (le_refl most_atoms));
        threes_low = omega (arith, L.upto.threes_is, up_most g (is_at 3) d most_atoms (λ x l. omega (arith, deepest, (tame_at 3).tame x)), cube {n = n} {c = most_atoms} few.high (le_refl most_atoms));
      }

      pub spare : Room k reached
      spare = let h : d ≤ most_atoms = omega (arith, deepest) in record { room = λ v w. omega (arith, L.counts.wanting v w, mul-le-mul few.high h) }

      -- one bond farther so many pairs are met
      module _ {met' : ℕ} (here : met' ≡ up_to g each (suc d)) where
        pub grows : met ≤ met'
        grows = omega (arith, here, L.upto.met_is, up_more g d)

        pub fits : met' - met ≤ most_atoms * most_atoms
        fits = omega (arith, here, up_most g each (suc d) 1 (λ x l. omega arith), mul-le-mul few.high few.high)

        -- nothing was added
        pub stuck : met' ≡ met → Err (refusal 7 0) ≡ as_result (indices_reply n xs)
        unfolding indices_reply
        stuck e = rw (block_drawn n xs, drawn, apart g sound d (omega (arith, here, L.upto.met_is)) (omega (arith, L.upto.met_is)))

        added : (f : ℕ → ℕ) (u : ℕ) → u ≡ up_to g f d → u + f (suc d) * (met' - met) ≡ up_to g f (suc d)
        added f u e =
            let k : met' ≡ met + (met' - met) = omega (arith, grows) in
            gain (f (suc d)) u (up_to g f (suc d)) met (met' - met)
            (ap (λ (m : ℕ). up_to g f (suc d) + f (suc d) * m) L.upto.met_is ∙ up_next g f d ∙ ap₂ (λ (x y : ℕ). x + f (suc d) * y) (sym e) (sym here ∙ k))

        pub upto_next : (met' ≡ met → ⊥) → LevelsUpTo g (suc d) met' (farther_of s (suc d) (met' - met))
        upto_next ne = record {
          all_is = added itself s.all L.upto.all_is;
          odd_is = added odd_of s.odd L.upto.odd_is;
          threes_is = added (is_at 3) s.threes L.upto.threes_is;
          met_is = here;
          below = shallow;
          deep = deeper g d (omega (arith, here, L.upto.met_is, grows));
        }

      pub counts_next : k ≤ n → (reached' : List ℕ) → Added k near reached reached' → Reached g (first_level xs) k (suc d) reached'
      counts_next h reached' A = record { wanting = λ v w. omega (arith, A.first (v - 1) (omega arith), L.counts.wanting v w, one_farther g d near L.reach v (omega arith)); behind = λ p l. A.kept p l ∙ L.counts.behind p l }

      -- all that are left are
      pub all_here : (sets₀ : List ℕ) → sets₀ ≡ neighbours_of g → AllNext n near sets₀ → n * n ≡ up_to g each (suc d)
      all_here sets₀ e A = sym (all_met g (suc d) (next_all g sound few.high d near sets₀ L.reach e A))

      -- what a turn finds: the sets one bond farther, and how many atoms they have
      module _ {sets' : List ℕ} {met' : ℕ} (W : Spread n xs near sets sets' met') where
        wider : Reach g (suc d) sets'
        wider = W.wider d shallow L.reach L.inner

        pub met_next : met' ≡ up_to g each (suc d)
        met_next = W.met_is wider.fits ∙ count_reach g (suc d) sets' wider

        pub level_next : k ≤ n → (met' ≡ met → ⊥) → (reached' : List ℕ) → Added k near reached reached' → Level n xs k sets' near reached' (farther_of s (d + 1) (met' - met)) met' (d + 1)
        level_next h ne reached' A = rw (add-one d) (record {
          reach = wider;
          inner = reach_inner sound (omega arith) L.reach;
          upto = upto_next met_next ne;
          counts = counts_next h reached' A;
        })

  -- no pair is left
  module _ {s : Both} {met d : ℕ} (U : LevelsUpTo (graph_of n xs) d met s) (over : n * n ≤ met) where
    pub whole : (i j : ℕ) → Within n i → Within n j → distance g i j ≤ d
    whole = met_all g d (omega (arith, U.met_is))

    linked : connected g ≡ true
    linked = all_connected g sound d U.below whole

    molecule : Molecule g
    molecule = connected_molecule sound linked

    twice : (f : ℕ → ℕ) (u : ℕ) → f 0 ≡ 0 → u ≡ up_to g f d → u / 2 ≡ total g f
    twice f u z e = omega (arith, e, up_all g molecule f z d whole)

    parts : total g even_of + total g odd_of ≡ total g itself
    unfolding total
    parts =
        sym (sum_pairs_add n (λ i j. even_of (distance g i j)) (λ i j. odd_of (distance g i j)))
        ∙ sum_pairs_cong n (λ i j w v. parts_of.parts (distance g i j))

    all_twice : s.all / 2 ≡ total g itself
    all_twice = twice itself s.all refl U.all_is

    odd_twice : s.odd / 2 ≡ total g odd_of
    unfolding odd_of
    odd_twice = twice odd_of s.odd refl U.odd_is

    threes_twice : s.threes / 2 ≡ total g (is_at 3)
    unfolding is_at
    threes_twice = twice (is_at 3) s.threes refl U.threes_is

    pub largest_last : largest g ≡ d
    largest_last = last_is g molecule d few.low whole U.deep

    pub odd_less : s.odd / 2 ≤ s.all / 2
    odd_less = omega (arith, all_twice, odd_twice, parts)

    pub level_end : Ok (halved n s d) ≡ as_result (indices_reply n xs)
    unfolding indices_reply indices_of
    level_end =
        let v : s.all / 2 - s.odd / 2 ≡ total g even_of = omega (arith, all_twice, odd_twice, parts) in
        rw (block_drawn n xs, drawn, linked) (λ k. Ok (record { atoms = n; w = all_twice k; even = v k; odd = odd_twice k; polarity = threes_twice k; largest = sym largest_last k }))

-- a reply with indices is no refusal, and has one largest distance
pub not_of : {r : Refusal} {x : Indices} → ◌≡◌ {A = Result Indices Refusal} (Err r) (Ok x) → ⊥
not_of e = let z : ◌≡◌ {A = ℕ} 0 1 = cc in omega arith

pub of_reached : {g : Graph} {own k : ℕ} {reached : List ℕ} (y x : Indices) → ◌≡◌ {A = Result Indices Refusal} (Ok y) (Ok x) → Reached g own k y.largest reached → Reached g own k x.largest reached
of_reached {g} {own} {k} {reached} y x e R = subst (λ (d : ℕ). Reached g own k d reached) (same y x e) R
  where
    same : (y x : Indices) → ◌≡◌ {A = Result Indices Refusal} (Ok y) (Ok x) → y.largest ≡ x.largest
    same y x e = cc
