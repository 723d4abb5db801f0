-- Laws. Bonds put into bytes, number by number. Assumes nothing.
use Rattle.std.specs.Prelude.{ℕ, ◌+◌, ◌*◌, ◌≤◌, Bool, true, false, cond, List, [], ◌∷◌, ◌≡◌, refl, length, set}
use Rattle.std.proofs.Math.Path.{sym, ap}
use Rattle.std.proofs.Common.{◌∙◌, arith, length-set}
use Rattle.adjacency.specs.Neighbours.{TextNumber, text_number, label_after, Step, asked_from, end}
use Rattle.adjacency.specs.Work.{is_bond, is_high, until, any_high, put_at, put_one, put_end, BondsPut, Filling}
use Rattle.adjacency.specs.Turns.{steps_none, steps_more, high_none, high_any, low_any, low_put, low_count}

pub filling_start : (n : ℕ) (xs : List TextNumber) (out : List ℕ) → Filling n (asked_from 0 xs) out 0 xs out 0
filling_start n xs out = record { bytes = refl; count = omega arith; high = refl; same = refl }

same_one : (t : Bool) (out : List ℕ) (p a b : ℕ) → length (cond t (set (set out p a) (p + 1) b) out) ≡ length out
same_one true out p a b = length-set (set out p a) (p + 1) b ∙ length-set out p a
same_one false out p a b = refl

module _ {n : ℕ} {ss : List Step} {first : List ℕ} {label : ℕ} {xs : List TextNumber} {out : List ℕ} {p : ℕ} (f : Filling n ss first label xs out p) where
  pub filling_end : xs ≡ [] → BondsPut n ss first out p false
  unfolding until put_at any_high
  filling_end e =
      let s = steps_none label e in
      record { bytes = sym (f.bytes ∙ rw s); counted = sym (f.count ∙ rw s (omega arith)); stopped = sym (f.high ∙ rw s); same = f.same }

  module _ {v q : ℕ} {ys : List TextNumber} (e : xs ≡ text_number v q ∷ ys) where
    pub filling_high : is_high n label v ≡ true → BondsPut n ss first out p true
    unfolding put_at
    filling_high h =
        let rest = asked_from (label_after label v) ys in
        let u = high_none label v rest n h in
        record {
          bytes = sym (f.bytes ∙ rw (steps_more label e, u));
          counted = sym (f.count ∙ rw (steps_more label e, u) (omega arith));
          stopped = sym (f.high ∙ ap (any_high n) (steps_more label e) ∙ high_any label v rest n h);
          same = f.same;
        }

    module _ (low : is_high n label v ≡ false) where
      pub filling_room : is_bond label v ≡ true → p + 2 ≤ 2 * length (until n ss)
      filling_room t =
          let rest = asked_from (label_after label v) ys in
          let c = low_count label v rest n low p in
          omega (arith, rw (steps_more label e) at f.count, rw t at c)

      pub filling_next : Filling n ss first (label_after label v) ys (put_one out p label v) (put_end p label v)
      filling_next =
          let rest = asked_from (label_after label v) ys in
          record {
            bytes = f.bytes ∙ ap (λ (s : List Step). put_at out p (until n s)) (steps_more label e) ∙ low_put label v rest n low out p;
            count = f.count ∙ ap (λ (s : List Step). p + 2 * length (until n s)) (steps_more label e) ∙ low_count label v rest n low p;
            high = f.high ∙ ap (any_high n) (steps_more label e) ∙ low_any label v rest n low;
            same = same_one (is_bond label v) out p (end label) (end v) ∙ f.same;
          }
