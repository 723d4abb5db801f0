-- Laws. What one number changes, for each function that goes through a text. Assumes nothing.
use Rattle.std.specs.Prelude.{ℕ, ◌+◌, ◌*◌, ◌≤◌, Bool, ◌&&◌, not, ◌≡◌, eqb, set}
use Rattle.std.proofs.Math.Bool.{true, false, cond}
use Rattle.std.proofs.Common.{true≢false, sym}
use mathlib.Core.List.{List, [], ◌∷◌, ◌++◌}
use Rattle.std.proofs.Math.Path.{refl}
use native.Mathlib.Omega.{arith}
use Rattle.std.proofs.Math.Dec.{leb, ltb}
use Rattle.std.proofs.Math.ListN.{length}
use Rattle.graph.specs.Graph.{bond}
use Rattle.reply.specs.Read.{Read, refused, read, refusal, ◌then◌}
use Rattle.reply.specs.Chain.{not_read}
use Rattle.reply.specs.declared.Refusal.{Refusal}
use Rattle.adjacency.specs.Neighbours.{TextNumber, text_number, label_after, is_last, last_reply, shape_from, end, Step, described, bonded, asked, asked_from, bonds_in}
use Rattle.adjacency.specs.Work.{is_bond, is_high, shaped_from, until, any_high, put_at, put_one, put_end}

pub steps_none : (label : ℕ) {xs : List TextNumber} → xs ≡ [] → asked_from label xs ≡ []
unfolding asked_from
steps_none label e = rw e

pub steps_more : (label : ℕ) {v p : ℕ} {xs ys : List TextNumber} → xs ≡ text_number v p ∷ ys → asked_from label xs ≡ asked label v ++ asked_from (label_after label v) ys
unfolding asked_from
steps_more label e = rw e

module _ (label x : ℕ) (ss : List Step) where
  pub counted : length (bonds_in (asked label x ++ ss)) ≡ cond (is_bond label x) 1 0 + length (bonds_in ss)
  unfolding asked bonds_in
  counted = go (eqb label 0) (leb label x)
    where
      go : (t u : Bool) → length (bonds_in (cond t (described x ∷ []) (cond u (bonded (bond (end label) (end x)) ∷ []) []) ++ ss)) ≡ cond (not t && u) 1 0 + length (bonds_in ss)
      go true u = omega arith
      go false true = omega arith
      go false false = omega arith

  module _ (n : ℕ) where
    pub high_none : is_high n label x ≡ true → until n (asked label x ++ ss) ≡ []
    unfolding asked until
    high_none = go (eqb label 0) (leb label x)
      where
        go : (t u : Bool) → (t && ltb n x) ≡ true → until n (cond t (described x ∷ []) (cond u (bonded (bond (end label) (end x)) ∷ []) []) ++ ss) ≡ []
        go true u e = rw e
        go false u e = absurd (true≢false (sym e))

    pub high_any : is_high n label x ≡ true → any_high n (asked label x ++ ss) ≡ true
    unfolding asked any_high
    high_any = go (eqb label 0) (leb label x)
      where
        go : (t u : Bool) → (t && ltb n x) ≡ true → any_high n (cond t (described x ∷ []) (cond u (bonded (bond (end label) (end x)) ∷ []) []) ++ ss) ≡ true
        go true u e = rw e
        go false u e = absurd (true≢false (sym e))

    module _ (low : is_high n label x ≡ false) where
      pub low_any : any_high n (asked label x ++ ss) ≡ any_high n ss
      unfolding asked any_high
      low_any = go (eqb label 0) (leb label x) low
        where
          go : (t u : Bool) → (t && ltb n x) ≡ false → any_high n (cond t (described x ∷ []) (cond u (bonded (bond (end label) (end x)) ∷ []) []) ++ ss) ≡ any_high n ss
          go true u e = rw e
          go false true e = refl
          go false false e = refl

      pub low_put : (out : List ℕ) (p : ℕ) → put_at out p (until n (asked label x ++ ss)) ≡ put_at (put_one out p label x) (put_end p label x) (until n ss)
      unfolding asked until put_at
      low_put out p = go (eqb label 0) (leb label x) low
        where
          go : (t u : Bool) → (t && ltb n x) ≡ false
              → put_at out p (until n (cond t (described x ∷ []) (cond u (bonded (bond (end label) (end x)) ∷ []) []) ++ ss))
              ≡ put_at (cond (not t && u) (set (set out p (end label)) (p + 1) (end x)) out) (cond (not t && u) (p + 2) p) (until n ss)
          go true u e = rw e
          go false true e = refl
          go false false e = refl

      pub low_count : (p : ℕ) → p + 2 * length (until n (asked label x ++ ss)) ≡ put_end p label x + 2 * length (until n ss)
      unfolding asked until
      low_count p = go (eqb label 0) (leb label x) low
        where
          go : (t u : Bool) → (t && ltb n x) ≡ false
              → p + 2 * length (until n (cond t (described x ∷ []) (cond u (bonded (bond (end label) (end x)) ∷ []) []) ++ ss)) ≡ cond (not t && u) (p + 2) p + 2 * length (until n ss)
          go true u e = rw e
          go false true e = omega arith
          go false false e = refl

pub one_at_most : (t : Bool) → cond t 1 0 ≤ 1
one_at_most true = omega arith
one_at_most false = omega arith

-- 22 and the number of bonds, number by number
module _ (last k label : ℕ) {xs : List TextNumber} where
  pub shaped_none : xs ≡ [] → shaped_from last k label xs ≡ refused (refusal 22 last)
  unfolding shape_from
  shaped_none e = rw e

  module _ {v p : ℕ} {ys : List TextNumber} (e : xs ≡ text_number v p ∷ ys) where
    count_more : k + length (bonds_in (asked_from label xs)) ≡ k + cond (is_bond label v) 1 0 + length (bonds_in (asked_from (label_after label v) ys))
    count_more = let c = counted label v (asked_from (label_after label v) ys) in rw (steps_more label e) (omega arith)

    pub shaped_more : is_last label v ≡ false → shaped_from last k label xs ≡ shaped_from last (k + cond (is_bond label v) 1 0) (label_after label v) ys
    unfolding shape_from
    shaped_more f = rw count_more (rw (e, f))

    pub shaped_last : is_last label v ≡ true → shaped_from last k label xs ≡ (last_reply ys then λ _. read k)
    unfolding shape_from asked_from bonds_in
    shaped_last f = rw count_more (rw (e, f) (go ys (eqb label 0) (eqb v 0) f))
      where
        go : (zs : List TextNumber) (t u : Bool) → (t && u) ≡ true
            → (last_reply zs then λ _. read (k + cond (not t && leb label v) 1 0 + length (bonds_in (asked_from (cond u 0 (cond t v label)) zs)))) ≡ (last_reply zs then λ _. read k)
        go (z ∷ zs) t u g = refl
        go [] true u g = let z : k + 0 + 0 ≡ k = omega arith in rw z
        go [] false u g = absurd (true≢false (sym g))

-- what the reply tells of the shape
pub shaped_refused : (last k label : ℕ) (xs : List TextNumber) (r : Refusal) → shaped_from last k label xs ≡ refused r → shape_from last label xs ≡ refused r
shaped_refused last k label xs r e = go (shape_from last label xs) e
  where
    go : (m : Read (Unit {0})) → (m then λ _. read (k + length (bonds_in (asked_from label xs)))) ≡ refused r → m ≡ refused r
    go (refused q) f = cc
    go (read u) f = absurd (not_read (sym f))

pub shaped_read : (last : ℕ) (xs : List TextNumber) (n : ℕ) → shaped_from last 0 0 xs ≡ read n → (shape_from last 0 xs ≡ read tt) × (n ≡ length (bonds_in (asked_from 0 xs)))
shaped_read last xs n e = go (shape_from last 0 xs) e
  where
    go : (m : Read (Unit {0})) → (m then λ _. read (0 + length (bonds_in (asked_from 0 xs)))) ≡ read n → (m ≡ read tt) × (n ≡ length (bonds_in (asked_from 0 xs)))
    go (refused q) f = absurd (not_read f)
    go (read u) f = let z : n ≡ 0 + length (bonds_in (asked_from 0 xs)) = cc in (refl, omega arith)
