-- Few pairs are left: whether all of them are one bond farther apart. Assumes nothing.
use Prim.Native.Nat.{ℕ, suc, ◌+◌, ◌-◌, ◌^◌, ◌≤◌, ◌<◌, min}
use mathlib.Core.Bool.{true, false, and-true, true≢false}
use mathlib.Core.List.{List}
use mathlib.Core.Logic.{◌≢◌}
use mathlib.Core.Path.{◌≡◌, refl, sym, ap, subst, ◌∙◌}
use native.Mathlib.Decide.{ℕ_discrete, dec_lt}
use native.Mathlib.Omega.{arith}
use borrow.Author.Tests.{ne_eqb, leb-true, lt-leb}
use lib.Bits.{bit_and, bit_xor, and_le_l}
use lib.Count.{count_trailing_zeros}
use lib.ListN.{get_or}
use Rattle.graph.specs.Graph.{Graph, Within, Sound, distance}
use Rattle.graph.specs.Bonds.{both, bonded_sym}
use Rattle.graph.specs.Distance.{sound_sym, sound_bond}
use Rattle.graph.specs.Lowest.{rest_less, rest_has}
use Rattle.graph.specs.Sets.{has, firsts}
use Rattle.graph.specs.SetLaws.{has_and, has_xor, has-none, has-firsts, lowest}
use Rattle.block.specs.Block.{most_atoms}
use Rattle.block.specs.Drawn.{has_neighbour}
use Rattle.block.specs.Near.{around}
use Rattle.block.specs.Opened.{neighbours_of}
use Rattle.reach.specs.Reach.{Reach, AllMeet, AllNext}

module _ (near : List ℕ) (some set : ℕ) where
  -- of a set this is left to look at
  pub record Meeting (rest : ℕ) : Type 0 where
    pub fits : rest < 2 ^ most_atoms
    pub met : (w : ℕ) → 1 ≤ w → has set w ≡ true → has rest w ≡ false → bit_and (around near w) some ≢ 0

  pub meeting_start : set < 2 ^ most_atoms → Meeting set
  meeting_start l = record { fits = l; met = λ w o h r. absurd (true≢false (sym h ∙ r)) }

  pub meeting_next : (rest : ℕ) → Meeting rest → rest ≢ 0 → bit_and (get_or near (count_trailing_zeros most_atoms rest) 0) some ≢ 0 → Meeting (bit_and rest (rest - 1))
  meeting_next rest M ne meets = record {
    fits = omega (arith, rest_less most_atoms rest ne M.fits, M.fits);
    met = λ w o h r. elim (ℕ_discrete w (suc p)) [
      | yes e ↦ let q : p ≡ w - 1 = omega arith in subst (λ (x : ℕ). bit_and (get_or near x 0) some ≢ 0) q meets
      | no e ↦ M.met w o h (sym (rest_has most_atoms rest ne M.fits w o ∙ rw (ne_eqb w (suc p) e) (and-true (has rest w))) ∙ r)
    ];
  }
    where
      p : ℕ
      p = count_trailing_zeros most_atoms rest

  pub meeting_end : (rest : ℕ) → Meeting rest → rest ≡ 0 → AllMeet near some set
  meeting_end rest M z w o h = M.met w o h (ap (λ (x : ℕ). has x w) z ∙ has-none w)

-- one atom after the other, of n
abbrev pub NextUpTo : ℕ → ℕ → List ℕ → List ℕ → Type 0
NextUpTo n i near drawn = (v : ℕ) → Within i v → AllMeet near (around drawn v) (bit_xor (firsts n) (around near v))

pub next_more : (n i all : ℕ) (near drawn : List ℕ) → n ≤ most_atoms → all ≡ 2 ^ min n most_atoms - 1 → NextUpTo n i near drawn
    → AllMeet near (get_or drawn i 0) (bit_xor all (get_or near i 0)) → NextUpTo n (i + 1) near drawn
next_more n i all near drawn l e A H v w = elim (ℕ_discrete v (suc i)) [
  | yes q ↦
      let k : i ≡ v - 1 = omega arith in
      let f : min n most_atoms ≡ n = omega arith in
      subst (λ (x : ℕ). AllMeet near (get_or drawn x 0) (bit_xor (firsts n) (get_or near x 0))) k
      (subst (λ (a : ℕ). AllMeet near (get_or drawn i 0) (bit_xor a (get_or near i 0))) (e ∙ ap firsts f) H)
  | no q ↦ A v (omega arith)
]

-- then all are within reach, one bond farther
pub next_all : (g : Graph) → Sound g → g.atoms ≤ most_atoms → (d : ℕ) (near drawn : List ℕ) → Reach g d near → drawn ≡ neighbours_of g → AllNext g.atoms near drawn
    → (i j : ℕ) → Within g.atoms i → Within g.atoms j → distance g i j ≤ suc d
next_all g s small d near drawn N e A i j w v = elim (dec_lt d (distance g i j)) [
  | yes h ↦
      let out : has (around near i) j ≡ false = N.holds i j w v ∙ lt-leb (distance g i j) d h in
      let far : has (bit_xor (firsts g.atoms) (around near i)) j ≡ true = has_xor (firsts g.atoms) (around near i) j ∙ rw (has-firsts g.atoms j v, out) refl in
      let m = bit_and (around near j) (around drawn i) in
      let ne = A i w j v.low far in
      let (l, x) = lowest g.atoms m (omega arith) (omega (arith, and_le_l (around near j) (around drawn i), N.fits j v)) in
      let u = suc (count_trailing_zeros g.atoms m) in
      let wu : Within g.atoms u = omega arith in
      let (y, z) = both (has (around near j) u) (has (around drawn i) u) (sym (has_and (around near j) (around drawn i) u) ∙ x) in
      let b = sym (ap (λ (k : List ℕ). has (around k i) u) e ∙ has_neighbour g i u (omega (arith, small)) wu) ∙ z in
      omega (arith, leb-true (distance g j u) d (sym (N.holds j u v wu) ∙ y), sound_bond s v u i (bonded_sym g i u b), sound_sym s w v)
  | no h ↦ omega arith
]
