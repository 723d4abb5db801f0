-- Laws. In the order of a written text each atom has as many ends of bonds as in the block. Assumes nothing.
use Rattle.std.specs.Prelude.{ℕ, zero, suc, ◌+◌, ◌≤◌, Bool, true, false, ◌&&◌, cond, List, [], ◌∷◌, ◌++◌, map, ◌≡◌, refl, eqb, ltb}
use Rattle.std.proofs.Common.{true≢false, sym, ◌∙◌, ap, arith, ltb-true, ltb-false}
use Rattle.graph.specs.Graph.{Bond, bond, Within, sum, any_joins, degree}
use Rattle.graph.specs.Bonds.{any_joins_sym, degree_append}
use Rattle.graph.specs.Choices.{eqb_sym}
use Rattle.graph.specs.Distance.{not_true}
use Rattle.graph.specs.Ends.{plain_apart, plain_degree}
use Rattle.graph.specs.Sums.{sum_cong, sum_add, sum_swap, sum_pick}
use Rattle.reply.specs.Read.{read}
use Rattle.block.specs.Block.{limit, bonds_of, block_reply}
use Rattle.block.specs.Told.{few_bonds, fine_drawn, drawn_plain}
use Rattle.adjacency.specs.Written.{up_to, is_greater, greater}
use Rattle.adjacency.specs.Canonical.{bonds_up_to}

pub map_append : (f : ℕ → Bond) (xs ys : List ℕ) → map f (xs ++ ys) ≡ map f xs ++ map f ys
map_append f [] ys = refl
map_append f (x ∷ xs) ys = ap (λ (l : List Bond). f x ∷ l) (map_append f xs ys)

row_degree : (i : ℕ) (p : ℕ → Bool) (k v : ℕ) → degree (map (bond i) (up_to k p)) v ≡ sum k (λ j. cond (p j) (cond (eqb i v) 1 0 + cond (eqb j v) 1 0) 0)
unfolding up_to degree sum
row_degree i p zero v = refl
row_degree i p (suc k) v =
    ap (λ (l : List Bond). degree l v) (map_append (bond i) (up_to k p) (cond (p (suc k)) (suc k ∷ []) []))
    ∙ degree_append (map (bond i) (up_to k p)) (map (bond i) (cond (p (suc k)) (suc k ∷ []) [])) v
    ∙ omega (arith, row_degree i p k v, one (p (suc k)))
  where
    one : (t : Bool) → degree (map (bond i) (cond t (suc k ∷ []) [])) v ≡ cond t (cond (eqb i v) 1 0 + cond (eqb (suc k) v) 1 0) 0
    one true = omega arith
    one false = refl

all_degree : (joined : ℕ → ℕ → Bool) (n m v : ℕ) → degree (bonds_up_to joined n m) v ≡ sum m (λ i. sum n (λ j. cond (is_greater joined i j) (cond (eqb i v) 1 0 + cond (eqb j v) 1 0) 0))
unfolding bonds_up_to greater degree sum
all_degree joined n zero v = refl
all_degree joined n (suc m) v =
    degree_append (bonds_up_to joined n m) (map (bond (suc m)) (greater joined n (suc m))) v
    ∙ omega (arith, all_degree joined n m v, row_degree (suc m) (is_greater joined (suc m)) n v)

module _ (joined : ℕ → ℕ → Bool) (either_way : (u v : ℕ) → joined u v ≡ joined v u) (n v : ℕ) (w : Within n v) (alone : joined v v ≡ false) where
  abbrev pair : ℕ → ℕ → ℕ
  pair i j = cond (is_greater joined i j) 1 0

  parted : (i j : ℕ) → cond (is_greater joined i j) (cond (eqb i v) 1 0 + cond (eqb j v) 1 0) 0 ≡ cond (eqb v i) (pair i j) 0 + cond (eqb v j) (pair i j) 0
  parted i j = rw (eqb_sym v i, eqb_sym v j) (go (is_greater joined i j) (eqb i v) (eqb j v))
    where
      go : (g s t : Bool) → cond g (cond s 1 0 + cond t 1 0) 0 ≡ cond s (cond g 1 0) 0 + cond t (cond g 1 0) 0
      go true true true = refl
      go true true false = refl
      go true false true = refl
      go true false false = refl
      go false true true = refl
      go false true false = refl
      go false false true = refl
      go false false false = refl

  one_way : (u : ℕ) → pair u v + pair v u ≡ cond (joined v u) 1 0
  one_way u = rw (either_way u v) (go (ltb u v) (ltb v u) (joined v u) refl refl refl)
    where
      go : (s t j : Bool) → ltb u v ≡ s → ltb v u ≡ t → joined v u ≡ j → cond (s && j) 1 0 + cond (t && j) 1 0 ≡ cond j 1 0
      go true true j p q r = let a = ltb-true u v p in let b = ltb-true v u q in absurd (omega arith)
      go true false true p q r = refl
      go true false false p q r = refl
      go false true true p q r = refl
      go false true false p q r = refl
      go false false false p q r = refl
      go false false true p q r =
          let a = ltb-false u v p in
          let b = ltb-false v u q in
          let e : u ≡ v = omega arith in
          absurd (true≢false (sym r ∙ rw e alone))

  pub degree_is : degree (bonds_up_to joined n n) v ≡ sum n (λ u. cond (joined v u) 1 0)
  degree_is =
      let inner : (i : ℕ) → Within n i → sum n (λ j. cond (is_greater joined i j) (cond (eqb i v) 1 0 + cond (eqb j v) 1 0) 0) ≡ sum n (λ j. cond (eqb v i) (pair i j) 0) + pair i v =
      λ i h. sum_cong n (λ j k. parted i j) ∙ sum_add n (λ j. cond (eqb v i) (pair i j) 0) (λ j. cond (eqb v j) (pair i j) 0) ∙ ap (λ (x : ℕ). sum n (λ j. cond (eqb v i) (pair i j) 0) + x) (sum_pick n v (λ j. pair i j) w) in
      let first : sum n (λ i. sum n (λ j. cond (eqb v i) (pair i j) 0)) ≡ sum n (λ j. pair v j) =
      sum_swap n n (λ i j. cond (eqb v i) (pair i j) 0) ∙ sum_cong n (λ j k. sum_pick n v (λ i. pair i j) w) in
      omega (
        arith,
        all_degree joined n n v,
        sum_cong n {f = λ i. sum n (λ j. cond (is_greater joined i j) (cond (eqb i v) 1 0 + cond (eqb j v) 1 0) 0)} {h = λ i. sum n (λ j. cond (eqb v i) (pair i j) 0) + pair i v} inner,
        sum_add n (λ i. sum n (λ j. cond (eqb v i) (pair i j) 0)) (λ i. pair i v),
        first,
        sum_add n (λ u. pair u v) (λ u. pair v u),
        sum_cong n {f = λ u. pair u v + pair v u} {h = λ u. cond (joined v u) 1 0} (λ u k. one_way u),
      )

pub canonical_degree : (n : ℕ) (xs : List ℕ) → block_reply n xs ≡ read tt → (v : ℕ) → Within n v → degree (bonds_up_to (any_joins (bonds_of xs)) n n) v ≡ degree (bonds_of xs) v
canonical_degree n xs fine v w =
    let bs = bonds_of xs in
    let p = drawn_plain n xs (fine_drawn n xs fine) in
    degree_is (any_joins bs) (any_joins_sym bs) n v w (not_true (any_joins bs v v) (λ e. plain_apart n bs p v v e refl)) ∙ plain_degree n bs p v

pub canonical_few : (n : ℕ) (xs : List ℕ) → block_reply n xs ≡ read tt → (v : ℕ) → Within n v → degree (bonds_up_to (any_joins (bonds_of xs)) n n) v ≤ limit
canonical_few n xs fine v w = omega (arith, canonical_degree n xs fine v w, few_bonds n xs fine v)
