-- Laws. The refusal number of a bond, test by test. Assumes nothing.
use Rattle.std.specs.Prelude.{ℕ, ◌≤◌, ◌<◌, Bool, true, false, ◌||◌, cond, List, ◌≡◌, refl, eqb, leb, ltb}
use Rattle.std.proofs.Common.{arith, ltb-false, leb-false}
use Rattle.std.proofs.lemmas.Bool.{eqb-false}
use Rattle.graph.specs.Graph.{Bond, bond, Within, any_joins, degree}
use Rattle.reply.specs.Read.{is_outside}
use Rattle.reply.specs.Chain.{neither}
use Rattle.block.specs.Block.{limit, bond_fault}

pub inside : (n v : ℕ) → is_outside n v ≡ false → Within n v
inside n v e =
    let r = neither (eqb v 0) (ltb n v) e in
    let z : (v ≡ 0 → ⊥) = eqb-false v 0 r.0 in
    let l : v ≤ n = ltb-false n v r.1 in
    omega arith

module _ (n : ℕ) (bs : List Bond) (a b : ℕ) where
  abbrev Numbered : ℕ → Type 0
  Numbered f = f ≡ bond_fault n bs (bond a b)

  pub three : is_outside n a ≡ true → Numbered 3
  unfolding bond_fault
  three p = rw p

  pub three' : is_outside n a ≡ false → is_outside n b ≡ true → Numbered 3
  unfolding bond_fault
  three' p q = rw (p, q)

  module _ (p : is_outside n a ≡ false) (q : is_outside n b ≡ false) where
    pub four : eqb a b ≡ true → Numbered 4
    unfolding bond_fault
    four e = rw (p, q, e)

    module _ (ne : eqb a b ≡ false) where
      pub five : any_joins bs a b ≡ true → Numbered 5
      unfolding bond_fault
      five e = rw (p, q, ne, e)

      module _ (new : any_joins bs a b ≡ false) where
        pub six : leb limit (degree bs a) ≡ true → Numbered 6
        unfolding bond_fault
        six e = rw (p, q, ne, new, e)

        pub six' : leb limit (degree bs a) ≡ false → leb limit (degree bs b) ≡ true → Numbered 6
        unfolding bond_fault
        six' l e = rw (p, q, ne, new, l, e)

        pub none : leb limit (degree bs a) ≡ false → leb limit (degree bs b) ≡ false → Numbered 0
        unfolding bond_fault
        none l e = rw (p, q, ne, new, l, e)

-- what a bond with no fault tells
pub record Faultless (n : ℕ) (bs : List Bond) (a b : ℕ) : Type 0 where
  pub one : Within n a
  pub two : Within n b
  pub differ : a ≡ b → ⊥
  pub new : any_joins bs a b ≡ false
  pub room_one : degree bs a < limit
  pub room_two : degree bs b < limit

chain : (p q r s : Bool) → ◌≡◌ {A = ℕ} (cond p 3 (cond q 4 (cond r 5 (cond s 6 0)))) 0 → (p ≡ false) × (q ≡ false) × (r ≡ false) × (s ≡ false)
chain true q r s e = absurd (omega arith)
chain false true r s e = absurd (omega arith)
chain false false true s e = absurd (omega arith)
chain false false false true e = absurd (omega arith)
chain false false false false e = (refl, refl, refl, refl)

pub faultless : (n : ℕ) (bs : List Bond) (b : Bond) → bond_fault n bs b ≡ 0 → Faultless n bs b.one b.two
unfolding bond_fault
faultless n bs β e =
    let a = β.one in
    let b = β.two in
    let t = chain (is_outside n a || is_outside n b) (eqb a b) (any_joins bs a b) (leb limit (degree bs a) || leb limit (degree bs b)) e in
    let o = neither (is_outside n a) (is_outside n b) t.0 in
    let f = neither (leb limit (degree bs a)) (leb limit (degree bs b)) t.3 in
    record {
      one = inside n a o.0;
      two = inside n b o.1;
      differ = eqb-false a b t.1;
      new = t.2;
      room_one = leb-false limit (degree bs a) f.0;
      room_two = leb-false limit (degree bs b) f.1;
    }
