-- The sizes of the sets of neighbours tell whether a bond is refused, where all ends are atoms. Assumes nothing.
use Prim.Native.Nat.{ℕ, ◌+◌, ◌*◌, ◌-◌, ◌%◌, ◌≤◌, ◌<◌}
use mathlib.Core.Bool.{Bool, true, false, ◌&&◌, ◌||◌, cond, true≢false}
use mathlib.Core.List.{List, [], ◌∷◌}
use mathlib.Core.Logic.{inl, ⊎_elim}
use mathlib.Core.Path.{◌≡◌, refl, sym, ap, ◌∙◌}
use native.Mathlib.Omega.{arith}
use borrow.Author.Tests.{eq-eqb, ne_eqb, eqb-true, lt-leb}
use lib.Count.{ones}
use lib.Dec.{eqb, ltb}
use lib.ListN.{length}
use Rattle.graph.specs.Graph.{Bond, Within, joins, any_joins, bonded, degree, sum}
use Rattle.graph.specs.Bonds.{both_true, one_of, any_head, any_tail, any_none}
use Rattle.graph.specs.Choices.{cond_and, cond_swap}
use Rattle.graph.specs.Distance.{not_true}
use Rattle.graph.specs.Ends.{plain_degree, plain_ends}
use Rattle.graph.specs.Notions.{Plain}
use Rattle.graph.specs.Sums.{sum_cong, sum_add, sum_none, sum_pick, sum_below, sum_tight}
use Rattle.graph.specs.Uses.{join_other}
use Rattle.reply.specs.Read.{read, is_outside}
use Rattle.block.specs.Block.{limit, most_atoms, most_bytes, bonds_of, graph_of, bonds_reply, drawn_reply}
use Rattle.block.specs.Near.{around, ShowsGraph}
use Rattle.block.specs.Sketched.{Few}
use Rattle.block.specs.Faults.{none}
use Rattle.block.specs.Digits.{count_atoms}
use Rattle.block.specs.Told.{within_inside, drawn_plain, drawn_degrees}
use Rattle.block.specs.Numbered.{bonds_length, drawn_bytes}

-- how many atoms the bonds join to u
abbrev joined : ℕ → List Bond → ℕ → ℕ
joined n bs u = sum n (λ w. cond (any_joins bs u w) 1 0)

abbrev Inside : ℕ → List Bond → Type 0
Inside n bs = (u w : ℕ) → any_joins bs u w ≡ true → Within n u × Within n w

-- one bond more, counted from each end, and the others
module _ (n : ℕ) (b : Bond) (bs : List Bond) (inside : Inside n (b ∷ bs)) where
  one : Within n b.one
  one = (inside b.one b.two (any_head b bs b.one b.two (inl (refl, refl)))).0

  two : Within n b.two
  two = (inside b.one b.two (any_head b bs b.one b.two (inl (refl, refl)))).1

  others : Inside n bs
  others u w e = inside u w (any_tail b bs u w e)

  abbrev each_end : ℕ → ℕ → ℕ
  each_end u w = cond (eqb b.one u && eqb b.two w) 1 0 + cond (eqb b.one w && eqb b.two u) 1 0 + cond (any_joins bs u w) 1 0

  at_most : (u w : ℕ) → cond (any_joins (b ∷ bs) u w) 1 0 ≤ each_end u w
  unfolding any_joins joins
  at_most u w = go (eqb b.one u && eqb b.two w) (eqb b.one w && eqb b.two u) (any_joins bs u w)
    where
      go : (p q r : Bool) → cond ((p || q) || r) 1 0 ≤ cond p 1 0 + cond q 1 0 + cond r 1 0
      go true q r = omega arith
      go false true r = omega arith
      go false false r = omega arith

  two_more : sum n (λ u. sum n (each_end u)) ≡ 2 + sum n (joined n bs)
  two_more =
      sum_cong n row
      ∙ omega (
        arith,
        sum_add n (λ u. cond (eqb b.one u) 1 0 + cond (eqb b.two u) 1 0) (joined n bs),
        sum_add n (λ u. cond (eqb b.one u) 1 0) (λ u. cond (eqb b.two u) 1 0),
        sum_pick n b.one (λ u. 1) one,
        sum_pick n b.two (λ u. 1) two,
      )
    where
      row : (u : ℕ) → Within n u → sum n (each_end u) ≡ cond (eqb b.one u) 1 0 + cond (eqb b.two u) 1 0 + joined n bs u
      row u h =
          omega (
            arith,
            sum_add n (λ w. cond (eqb b.one u && eqb b.two w) 1 0 + cond (eqb b.one w && eqb b.two u) 1 0) (λ w. cond (any_joins bs u w) 1 0),
            sum_add n (λ w. cond (eqb b.one u && eqb b.two w) 1 0) (λ w. cond (eqb b.one w && eqb b.two u) 1 0),
            sum_cong n (λ w k. cond_and (eqb b.one u) (eqb b.two w) 1 ∙ cond_swap (eqb b.one u) (eqb b.two w) 1),
            sum_pick n b.two (λ w. cond (eqb b.one u) 1 0) two,
            sum_cong n (λ w k. cond_and (eqb b.one w) (eqb b.two u) 1),
            sum_pick n b.one (λ w. cond (eqb b.two u) 1 0) one,
          )

  some_more : sum n (joined n (b ∷ bs)) ≤ 2 + sum n (joined n bs)
  some_more = omega (arith, two_more, sum_below n (λ u h. sum_below n (λ w k. at_most u w)))

  -- where it counts twice, it joins two atoms that no other joins
  module _ (full : 2 + sum n (joined n bs) ≤ sum n (joined n (b ∷ bs))) where
    tight : each_end b.one b.two ≡ cond (any_joins (b ∷ bs) b.one b.two) 1 0
    tight =
        let rows = sum_tight n (λ u h. sum_below n (λ w k. at_most u w)) (omega (arith, two_more)) b.one one in
        sum_tight n (λ w k. at_most b.one w) (omega (arith, rows)) b.two two

    single : 1 + cond (eqb b.one b.two && eqb b.two b.one) 1 0 + cond (any_joins bs b.one b.two) 1 0 ≤ 1
    single = omega (arith, rw (eq-eqb b.one b.one refl, eq-eqb b.two b.two refl, any_head b bs b.one b.two (inl (refl, refl))) at tight)

    differ : b.one ≡ b.two → ⊥
    differ e =
        let t = both_true (eqb b.one b.two) (eqb b.two b.one) (eq-eqb b.one b.two e) (eq-eqb b.two b.one (sym e)) in
        omega (arith, single, ap {B = ℕ} (λ (t : Bool). cond t 1 0) t)

    new : any_joins bs b.one b.two ≡ false
    new = not_true (any_joins bs b.one b.two) (λ e. omega (arith, single, ap {B = ℕ} (λ (t : Bool). cond t 1 0) e))

joined_few : (n : ℕ) (bs : List Bond) → Inside n bs → sum n (joined n bs) ≤ 2 * length bs
unfolding any_joins
joined_few n [] h = omega (arith, sum_cong n (λ u w. sum_none n), sum_none n)
joined_few n (b ∷ bs) h = omega (arith, joined_few n bs (others n b bs h), some_more n b bs h)

-- AS MANY JOINED PAIRS AS ENDS: no bond is listed again
joined_plain : (n : ℕ) (bs : List Bond) → Inside n bs → sum n (joined n bs) ≡ 2 * length bs → Plain n bs
unfolding Plain
joined_plain n [] h e = tt
joined_plain n (b ∷ bs) h e =
    let few = joined_few n bs (others n b bs h) in
    let full : 2 + sum n (joined n bs) ≤ sum n (joined n (b ∷ bs)) = omega arith in (
      record { one = one n b bs h; two = two n b bs h; apart = differ n b bs h full },
      new n b bs h full,
      joined_plain n bs (others n b bs h) (omega (arith, some_more n b bs h)),
    )

-- such bonds have no fault where no atom has too many
plain_read : (n : ℕ) (before bs : List Bond) → Plain n bs → ((u v : ℕ) → any_joins before u v ≡ true → any_joins bs u v ≡ false)
    → ((v : ℕ) → Within n v → degree before v + degree bs v ≤ limit) → bonds_reply n before bs ≡ read tt
unfolding bonds_reply Plain degree any_joins
plain_read n before [] p apart room = refl
plain_read n before (b ∷ bs) p apart room =
    let x = b.one in
    let y = b.two in
    let q = p.0 in
    let free =
    none n before x y (within_inside n x q.one) (within_inside n y q.two) (ne_eqb x y q.apart) new_here (lt-leb limit (degree before x) (at x q.one first))
    (lt-leb limit (degree before y) (at y q.two second)) in
    rw (← free) (plain_read n (b ∷ before) bs p.2 later (λ v w. omega (arith, room v w)))
  where
    new_here : any_joins before b.one b.two ≡ false
    new_here = not_true (any_joins before b.one b.two) (λ e. true≢false (sym (any_head b bs b.one b.two (inl (refl, refl))) ∙ apart b.one b.two e))

    first : 1 ≤ cond (eqb b.one b.one) 1 0 + cond (eqb b.two b.one) 1 0
    first = rw (eq-eqb b.one b.one refl) (omega arith)

    second : 1 ≤ cond (eqb b.one b.two) 1 0 + cond (eqb b.two b.two) 1 0
    second = rw (eq-eqb b.two b.two refl) (omega arith)

    at : (v : ℕ) → Within n v → 1 ≤ cond (eqb b.one v) 1 0 + cond (eqb b.two v) 1 0 → degree before v < limit
    at v w l = omega (arith, room v w)

    later : (u v : ℕ) → any_joins (b ∷ before) u v ≡ true → any_joins bs u v ≡ false
    later u v e =
        ⊎_elim (λ j. join_other bs b u v j p.1)
        (λ j. not_true (any_joins bs u v) (λ k. true≢false (sym (any_tail b bs u v k) ∙ apart u v j))) (one_of (joins b u v) (any_joins before u v) e)

-- what the neighbours of a block tell by their sizes
module _ (n : ℕ) (xs : List ℕ) (near : List ℕ) (D : ShowsGraph (graph_of n xs) near) where
  size_joined : (v : ℕ) → Within n v → ones (around near v) ≡ joined n (bonds_of xs) v
  unfolding bonded
  size_joined v w = count_atoms n (around near v) (D.fits (v - 1)) ∙ sum_cong n (λ u h. ap (λ (t : Bool). cond t 1 0) (D.drawn v u w h))

  pub few_fine : is_outside most_atoms n ≡ false → eqb (length xs % 2) 0 ≡ true → ltb most_bytes (length xs) ≡ false → Few n (length xs) near → drawn_reply n xs ≡ read tt
  unfolding drawn_reply bonded degree
  few_fine p q l F =
      let plain = joined_plain n (bonds_of xs) D.ends (sym (sum_cong n size_joined) ∙ F.all ∙ omega (arith, bonds_length xs, eqb-true (length xs % 2) 0 q)) in
      rw (p, q, l)
      (plain_read n [] (bonds_of xs) plain (λ u v e. absurd (any_none u v e)) (λ v w. omega (arith, F.each v w, size_joined v w, plain_degree n (bonds_of xs) plain v)))

  pub fine_few : drawn_reply n xs ≡ read tt → Few n (length xs) near
  fine_few e =
      let plain = drawn_plain n xs e in
      let size : (v : ℕ) → Within n v → ones (around near v) ≡ degree (bonds_of xs) v = λ v w. size_joined v w ∙ plain_degree n (bonds_of xs) plain v in
      record {
        all = sum_cong n size ∙ plain_ends n (bonds_of xs) plain ∙ (drawn_bytes n xs e).1;
        each = λ v w. omega (arith, size v w, drawn_degrees n xs e v);
      }
