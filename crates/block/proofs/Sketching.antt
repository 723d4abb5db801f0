-- The bonds are drawn one by one, with the atoms that they reach from atom 1, and then the sizes of the sets are taken: what holds on the way. Assumes nothing.
use Prim.Native.Nat.{ℕ, suc, ◌+◌, ◌-◌, ◌*◌, ◌/◌, ◌^◌, min, ◌≤◌, ◌<◌}
use mathlib.Core.Bool.{Bool, true, false, true≢false, false≢true}
use mathlib.Core.List.{List}
use mathlib.Core.Logic.{◌⊎◌, inl, inr, ⊎_elim, ⊎_map, ◌≢◌}
use mathlib.Core.Path.{◌≡◌, refl, sym, ap, subst, fun_ext, ◌∙◌}
use native.Mathlib.Decide.{ℕ_discrete}
use native.Mathlib.Omega.{arith}
use borrow.Author.Tests.{eqb-true, ltb-true, ltb-false}
use lib.Bits.{bit_and, bit_or, or_add_and, and_le_l, and_le_r, and_lt, or_lt}
use lib.Count.{ones, count_trailing_zeros}
use lib.Dec.{ltb}
use lib.ListN.{length, get_or}
use Rattle.graph.specs.Graph.{Walk, Within, any_joins, bonded, connected, sum}
use Rattle.graph.specs.Graph.Walk.{stay, step}
use Rattle.graph.specs.Bonds.{both, one_of, bonded_sym}
use Rattle.graph.specs.Connected.{connected_from}
use Rattle.graph.specs.Sets.{has, alone}
use Rattle.graph.specs.SetLaws.{has_and, has_or, has-alone, has-firsts, lowest}
use Rattle.graph.specs.Sums.{wider, last}
use Rattle.reply.specs.Read.{read, is_outside}
use Rattle.block.specs.Block.{limit, most_atoms, graph_of, drawn_reply}
use Rattle.block.specs.Near.{around, putting, Draws, ShowsGraph}
use Rattle.block.specs.Sketched.{Joined, Sketched, Sized}
use Rattle.block.specs.Told.{within_inside, drawn_atoms, drawn_sound}
use Rattle.block.specs.Numbered.{bond_at, bond_listed, drawn_within}
use Rattle.block.proofs.Listing.{put_both}
use Rattle.block.proofs.Sizes.{fine_few}
use Rattle.block.proofs.Reading.{before, all_before, blank, blank_draws}

-- the ends of a bond, one of which is reached
pub joined_ends : (old ends : ℕ) → old < 2 ^ most_atoms → ends < 2 ^ most_atoms → bit_and old ends ≢ 0 → Joined old ends (bit_or old ends)
joined_ends old ends l m ne =
    let met = (lowest most_atoms (bit_and old ends) (omega arith) (and_lt most_atoms old ends l m)).1 in
    let w = suc (count_trailing_zeros most_atoms (bit_and old ends)) in
    let (p, q) = both (has old w) (has ends w) (sym (has_and old ends w) ∙ met) in
    record { from = λ v h. ⊎_elim inl (λ e. inr (w, omega arith, p, q, e)) (one_of (has old v) (has ends v) (sym (has_or old ends v) ∙ h)) }

-- what holds after k bonds whose ends are atoms
pub record Sketching (n : ℕ) (xs : List ℕ) (k reached : ℕ) (near : List ℕ) : Type 0 where
  pub draws : Draws n (any_joins (before xs k)) near
  pub walked : (v : ℕ) → Within n v → has reached v ≡ true → (j : ℕ) × Walk (graph_of n xs) 1 v j

pub sketching_start : (n : ℕ) (xs : List ℕ) → n ≤ most_atoms → Sketching n xs 0 1 blank
unfolding before
sketching_start n xs l = record {
  draws = blank_draws n l;
  walked = λ v w h. (0, subst (λ (u : ℕ). Walk (graph_of n xs) 1 u 0) (sym (eqb-true v 1 (sym (has-alone 1 v (omega arith) w.low) ∙ h))) stay);
}

-- the next bond a-b: a walk to one of its ends goes on to the other
module _ (n : ℕ) (xs : List ℕ) (k reached : ℕ) (near : List ℕ) (S : Sketching n xs k reached near) (more : k < length xs / 2) where
  abbrev a : ℕ
  a = get_or xs (2 * k) 0

  abbrev b : ℕ
  b = get_or xs (2 * k + 1) 0

  module _ (wa : Within n a) (wb : Within n b) where
    end : (v : ℕ) → 1 ≤ v → has (bit_or (alone a) (alone b)) v ≡ true → (v ≡ a) ⊎ (v ≡ b)
    end v l h =
        ⊎_map (λ e. eqb-true v a (sym (has-alone a v wa.low l) ∙ e)) (λ e. eqb-true v b (sym (has-alone b v wb.low l) ∙ e))
        (one_of (has (alone a) v) (has (alone b) v) (sym (has_or (alone a) (alone b) v) ∙ h))

    listed : bonded (graph_of n xs) a b ≡ true
    unfolding bonded
    listed = bond_listed xs k more

    walk_to : (u v : ℕ) → has reached u ≡ true → (u ≡ a) ⊎ (u ≡ b) → (v ≡ a) ⊎ (v ≡ b) → (j : ℕ) × Walk (graph_of n xs) 1 v j
    walk_to u v h (inl p) (inl q) = rw q (S.walked a wa (rw p at h))
    walk_to u v h (inl p) (inr q) = let (j, w) = S.walked a wa (rw p at h) in rw q (suc j, step w listed)
    walk_to u v h (inr p) (inl q) = let (j, w) = S.walked b wb (rw p at h) in rw q (suc j, step w (bonded_sym (graph_of n xs) a b listed))
    walk_to u v h (inr p) (inr q) = rw q (S.walked b wb (rw p at h))

    pub sketching_next : (new : ℕ) → Joined reached (bit_or (alone a) (alone b)) new → Sketching n xs (suc k) new (putting (putting near a b) b a)
    unfolding before
    sketching_next new J = record {
      draws = put_both n (before xs k) near S.draws a b wa wb;
      walked = λ v w h. ⊎_elim (S.walked v w) (λ (u, l, old, here, there). walk_to u v old (end u l here) (end v w.low there)) (J.from v h);
    }

-- after the last bond
pub sketching_shows : (n : ℕ) (xs : List ℕ) (k reached : ℕ) (near : List ℕ) → Sketching n xs k reached near → 2 * k ≤ length xs → length xs < 2 * k + 2 → ShowsGraph (graph_of n xs) near
sketching_shows n xs k reached near S l last = subst (λ (R : ℕ → ℕ → Bool). Draws n R near) (fun_ext (λ u. fun_ext (λ v. all_before n xs k l last u v))) S.draws

-- where the bonds are not all drawn, the block is refused
pub undrawn : {n : ℕ} {xs : List ℕ} {reached : ℕ} {near : List ℕ} → (drawn_reply n xs ≡ read tt → ⊥) → Sketched n xs false reached near
undrawn h = record { shown = λ e. absurd (false≢true e); walked = λ e. absurd (false≢true e); refuses = λ e. h }

pub end_outside : {n : ℕ} {xs : List ℕ} {reached : ℕ} {near : List ℕ} (k : ℕ) → k < length xs / 2
    → (is_outside n (bond_at xs k).one ≡ true) ⊎ (is_outside n (bond_at xs k).two ≡ true) → Sketched n xs false reached near
end_outside {n} {xs} k l o = undrawn (λ e.
    let (p, q) = drawn_within n xs e k l in
    ⊎_elim (λ h. true≢false (sym h ∙ within_inside n (bond_at xs k).one p)) (λ h. true≢false (sym h ∙ within_inside n (bond_at xs k).two q)) o)

-- the sizes of the first i sets: their sum, and a number that is above each, and below 8 where none is above 6
pub record Sizing (near : List ℕ) (i total high : ℕ) : Type 0 where
  pub total_is : total ≡ sum i (λ v. ones (around near v))
  pub low : total ≤ most_atoms * i
  pub above : (v : ℕ) → Within i v → ones (around near v) < high
  pub below : ((v : ℕ) → Within i v → ones (around near v) ≤ limit) → high < limit + 2

pub sizing_start : (near : List ℕ) → Sizing near 0 0 0
unfolding sum
sizing_start near = record { total_is = refl; low = omega arith; above = λ v w. absurd (omega arith); below = λ h. omega arith }

pub sizing_next : (near : List ℕ) (i total high k : ℕ) → Sizing near i total high → k ≡ ones (get_or near i 0) → k ≤ most_atoms → Sizing near (suc i) (total + k) (bit_or high (k + 1))
unfolding sum
sizing_next near i total high k S e few = record {
  total_is = omega (arith, S.total_is, here);
  low = omega (arith, S.low);
  above = λ v w. elim (ℕ_discrete v (suc i)) [
    | yes q ↦ rw q (omega (arith, here, or_add_and high (k + 1), and_le_l high (k + 1)))
    | no ne ↦ omega (arith, S.above v (omega arith), or_add_and high (k + 1), and_le_r high (k + 1))
  ];
  below = λ h. or_lt 3 high (k + 1) (S.below (λ v w. h v (wider w))) (omega (arith, here, h (suc i) (last i)));
}
  where
    here : ones (around near (suc i)) ≡ k
    here = let j : suc i - 1 ≡ i = omega arith in ap (λ (x : ℕ). ones (get_or near x 0)) j ∙ sym e

-- and of all
module _ (n ends : ℕ) {near : List ℕ} {total high : ℕ} (S : Sizing near n total high) where
  pub sizing_other : total ≢ ends → Sized n ends near false
  sizing_other ne = record { few = λ e. absurd (false≢true e); many = λ e F. ne (S.total_is ∙ F.all) }

  pub sizing_same : total ≡ ends → (top : ℕ) → top ≡ limit + 2 → Sized n ends near (ltb high top)
  sizing_same e top t = record {
    few = λ l. record { all = sym S.total_is ∙ e; each = λ v w. omega (arith, S.above v w, ltb-true high top l) };
    many = λ l F. omega (arith, S.below F.each, ltb-false high top l);
  }

-- WHERE BOTH SAY FINE: the block is not refused by 1 to 6, and where all atoms are reached it is connected
module _ (n : ℕ) (xs : List ℕ) {fine : Bool} {reached : ℕ} {near : List ℕ} (S : Sketched n xs fine reached near) where
  pub sketch_sized : {plain : Bool} → fine ≡ true → Sized n (length xs) near plain → Sketched n xs plain reached near
  sketch_sized f Z = record { shown = λ e. S.shown f; walked = λ e. S.walked f; refuses = λ e d. Z.many e (fine_few n xs near (S.shown f) d) }

  pub sketch_whole : fine ≡ true → drawn_reply n xs ≡ read tt → reached ≡ 2 ^ min n most_atoms - 1 → connected (graph_of n xs) ≡ true
  sketch_whole f d e =
      let w = drawn_atoms n xs d in
      let k : min n most_atoms ≡ n = omega arith in
      connected_from (drawn_sound n xs d) 1 (λ j h. S.walked f j h (ap (λ (m : ℕ). has m j) (e ∙ ap (λ (m : ℕ). 2 ^ m - 1) k) ∙ has-firsts n j h))
