-- Laws. The tests and searches of the definitions, step by step as the code goes. Assumes nothing.
use Prim.Native.Nat.{ℕ, zero, suc, ◌+◌, ◌*◌, ◌-◌, ◌≤◌, ◌<◌}
use Rattle.std.specs.Prelude.{Bool, true, false, ◌&&◌, cond, List, [], ◌∷◌, ◌++◌, ◌≡◌, eqb, length, take, drop, set, get_or}
use Rattle.std.proofs.Math.Bool.{not}
use Rattle.std.proofs.Math.Path.{refl, ap₂}
use Rattle.std.proofs.Common.{sym, ◌∙◌, ap, length-append, length-drop, take-suc-set}
use Rattle.std.proofs.Math.Numerals.{add-one}
use native.Mathlib.Omega.{arith}
use borrow.Author.Tests.{eq-eqb, ne_eqb, ltb-true}
use Rattle.std.proofs.Math.ListN.{get_or-eq_default}
use Rattle.std.proofs.Math.Seq.{drop-cons}
use Rattle.graph.specs.Graph.{Bond, bond, Graph, joins, any_joins, bonded, any_atom}
use Rattle.graph.specs.Assembly.{atom_of}
use Rattle.reply.specs.Read.{is_outside}
use Rattle.block.specs.Block.{bonds_of}
use Rattle.block.specs.Numbered.{bonds_short}
use Rattle.deck.specs.Deck.{Deck}
use Rattle.deck.specs.Molecule.{graph_at}
use Rattle.deck.specs.Sound.{WholeDeck}
use Rattle.deck.specs.Placed.{is_missing}
use Rattle.deck.specs.Present.{present}
use Rattle.whole.specs.Work.{most_start}
use Rattle.whole.specs.Joins.{start_few}
use Rattle.matched.specs.Matched.{placed_number, partners, partner, is_lost, is_loose, carried, is_unlisted, first_atom, first_bond, ◌or_else◌, match_place}
use Rattle.matched.specs.Work.{is_taken}

-- the number of a placed atom is small
pub number_few : {d : List ℕ} {k : Deck} → WholeDeck d k → (p a : ℕ) → placed_number d k p a ≤ most_start
unfolding placed_number
number_few {d} {k} w p a = go (is_missing d k p a) refl
  where
    go : (t : Bool) → is_missing d k p a ≡ t → cond t 0 (atom_of (graph_at d k) p a) ≤ most_start
    go true e = omega arith
    go false e =
        let q = present d k p a e in
        let n = w.count in
        let s = start_few w (p - 1) (omega (arith, q.number, n)) in
        omega (arith, s, q.atom, q.number, n, (w.atoms (p - 1) (omega (arith, q.number, n))).high)

-- one partner more
pub partners_next : (d : List ℕ) (k : Deck) (matching to : List ℕ) (i x : ℕ) → i < length to → take i to ≡ partners d k matching i
    → x ≡ placed_number d k (get_or matching (2 * i) 0) (get_or matching (2 * i + 1) 0) → take (i + 1) (set to i x) ≡ partners d k matching (i + 1)
unfolding partners
partners_next d k matching to i x h e f = rw (add-one i) (take-suc-set to i x h ∙ ap₂ (λ (l : List ℕ) (y : ℕ). l ++ (y ∷ [])) e f)

pub partners-length : (d : List ℕ) (k : Deck) (matching : List ℕ) (n : ℕ) → length (partners d k matching n) ≡ n
unfolding partners
partners-length d k matching zero = refl
partners-length d k matching (suc n) =
    omega (arith, partners-length d k matching n, length-append (partners d k matching n) (placed_number d k (get_or matching (2 * n) 0) (get_or matching (2 * n + 1) 0) ∷ []))

pub partner_none : (to : List ℕ) (v : ℕ) → is_outside (length to) v ≡ true → 0 ≡ partner to v
unfolding partner
partner_none to zero e = refl
partner_none to (suc i) e = sym (get_or-eq_default to 0 (omega (arith, ltb-true (length to) (suc i) (rw (ne_eqb (suc i) 0 (λ z. omega (arith, z))) at e))))

pub partner_some : (to : List ℕ) (v x : ℕ) → 1 ≤ v → x ≡ get_or to (v - 1) 0 → x ≡ partner to v
unfolding partner
partner_some to zero x h e = absurd (omega arith)
partner_some to (suc i) x h e = let j : suc i - 1 ≡ i = omega arith in e ∙ ap (λ (n : ℕ). get_or to n 0) j

-- atoms that are tried for a partner, the last first
module _ (to : List ℕ) (x : ℕ) where
  pub taken_hit : (u : ℕ) → 0 < u → partner to u ≡ x → true ≡ is_taken to u x
  unfolding is_taken any_atom
  taken_hit zero h e = absurd (omega arith)
  taken_hit (suc u) h e = rw (eq-eqb (partner to (suc u)) x e)

  pub taken_on : (u : ℕ) → 0 < u → (partner to u ≡ x → ⊥) → is_taken to (u - 1) x ≡ is_taken to u x
  unfolding is_taken any_atom
  taken_on zero h e = absurd (omega arith)
  taken_on (suc u) h e = let j : suc u - 1 ≡ u = omega arith in rw (j, ne_eqb (partner to (suc u)) x e)

  pub taken_none : false ≡ is_taken to 0 x
  unfolding is_taken any_atom
  taken_none = refl

pub lost_none : (to : List ℕ) (v : ℕ) → partner to v ≡ 0 → true ≡ is_lost to v
unfolding is_lost
lost_none to v e = rw (eq-eqb (partner to v) 0 e)

pub lost_later : (to : List ℕ) (v x : ℕ) (r : Bool) → x ≡ partner to v → (x ≡ 0 → ⊥) → r ≡ is_taken to (v - 1) x → r ≡ is_lost to v
unfolding is_lost is_taken
lost_later to v x r e n f = f ∙ ap (is_taken to (v - 1)) e ∙ rw (ne_eqb (partner to v) 0 (λ z. n (e ∙ z)))

-- the first atom, one by one
module _ (n v : ℕ) (p : ℕ → Bool) where
  pub atom_hit : v ≤ n → p v ≡ true → v ≡ first_atom (n + 1 - v) v p
  unfolding first_atom
  atom_hit h t = let e : n + 1 - v ≡ suc (n - v) = omega arith in rw e (rw (t, first_atom))

  pub atom_on : v ≤ n → p v ≡ false → first_atom (n + 1 - (v + 1)) (v + 1) p ≡ first_atom (n + 1 - v) v p
  unfolding first_atom
  atom_on h t =
      let e : n + 1 - v ≡ suc (n - v) = omega arith in
      let f : n + 1 - (v + 1) ≡ n - v = omega arith in
      rw (e, f, add-one v) (rw (t, first_atom))

  pub atom_over : n < v → 0 ≡ first_atom (n + 1 - v) v p
  unfolding first_atom
  atom_over h = let e : n + 1 - v ≡ 0 = omega arith in rw e

-- the first bond of a list passes, or does not
pub first_yes : (place : ℕ) (p : Bond → Bool) (b : Bond) (bs : List Bond) → p b ≡ true → first_bond place p (b ∷ bs) ≡ place
unfolding first_bond
first_yes place p b bs t = rw (t, first_bond)

pub first_no : (place : ℕ) (p : Bond → Bool) (b : Bond) (bs : List Bond) → p b ≡ false → first_bond place p (b ∷ bs) ≡ first_bond (suc place) p bs
unfolding first_bond
first_no place p b bs t = rw (t, first_bond)

-- bonds as numbers, two by two
module _ (xs : List ℕ) (i one two : ℕ) (h : 2 ≤ length xs - i) (e : one ≡ get_or xs i 0) (f : two ≡ get_or xs (i + 1) 0) where
  bonds_next : bonds_of (drop i xs) ≡ bond one two ∷ bonds_of (drop (i + 2) xs)
  unfolding bonds_of
  bonds_next =
      let a : i + 1 ≡ suc i = omega arith in
      let b : i + 2 ≡ suc (suc i) = omega arith in
      rw (e, f, drop-cons xs i 0 (omega arith), drop-cons xs (suc i) 0 (omega arith), a, b)

  module _ (x y : ℕ) where
    pub bonded_hit : joins (bond one two) x y ≡ true → true ≡ any_joins (bonds_of (drop i xs)) x y
    unfolding any_joins
    bonded_hit t = rw (bonds_next, t)

    pub bonded_on : joins (bond one two) x y ≡ false → any_joins (bonds_of (drop (i + 2) xs)) x y ≡ any_joins (bonds_of (drop i xs)) x y
    unfolding any_joins
    bonded_on t = rw (bonds_next, t)

    pub carried_hit : (to : List ℕ) → joins (bond (partner to one) (partner to two)) x y ≡ true → true ≡ any_joins (carried to (bonds_of (drop i xs))) x y
    unfolding any_joins carried
    carried_hit to t = rw (bonds_next, t)

    pub carried_on : (to : List ℕ) → joins (bond (partner to one) (partner to two)) x y ≡ false
        → any_joins (carried to (bonds_of (drop (i + 2) xs))) x y ≡ any_joins (carried to (bonds_of (drop i xs))) x y
    unfolding any_joins carried
    carried_on to t = rw (bonds_next, t)

  pub first_hit : (place : ℕ) (p : Bond → Bool) → p (bond one two) ≡ true → place ≡ first_bond place p (bonds_of (drop i xs))
  first_hit place p t = rw bonds_next (sym (first_yes place p (bond one two) (bonds_of (drop (i + 2) xs)) t))

  pub first_on : (place : ℕ) (p : Bond → Bool) → p (bond one two) ≡ false → first_bond (place + 1) p (bonds_of (drop (i + 2) xs)) ≡ first_bond place p (bonds_of (drop i xs))
  first_on place p t = rw (bonds_next, add-one place) (sym (first_no place p (bond one two) (bonds_of (drop (i + 2) xs)) t))

module _ (xs : List ℕ) (i : ℕ) (h : length xs - i ≤ 1) where
  bonds_over : bonds_of (drop i xs) ≡ []
  bonds_over = bonds_short (drop i xs) (omega (arith, length-drop i xs))

  pub bonded_over : (x y : ℕ) → false ≡ any_joins (bonds_of (drop i xs)) x y
  unfolding any_joins
  bonded_over x y = rw bonds_over

  pub carried_over : (to : List ℕ) (x y : ℕ) → false ≡ any_joins (carried to (bonds_of (drop i xs))) x y
  unfolding any_joins carried
  carried_over to x y = rw bonds_over

  pub first_over : (place : ℕ) (p : Bond → Bool) → 0 ≡ first_bond place p (bonds_of (drop i xs))
  unfolding first_bond
  first_over place p = rw bonds_over

-- whether a bond joins two atoms, either end first
module _ (one two x y : ℕ) (r : Bool) where
  pub joins_first : (eqb one x && eqb two y) ≡ true → true ≡ joins (bond one two) x y
  unfolding joins
  joins_first t = rw t

  pub joins_second : (eqb one x && eqb two y) ≡ false → r ≡ (eqb one y && eqb two x) → r ≡ joins (bond one two) x y
  unfolding joins
  joins_second t e = rw t e

-- whether a bond is loose, its ends first
module _ (g h : Graph) (to : List ℕ) (one two : ℕ) where
  pub loose_one : is_outside g.atoms one ≡ true → true ≡ is_loose g h to (bond one two)
  unfolding is_loose
  loose_one t = rw t

  pub loose_two : is_outside g.atoms one ≡ false → is_outside g.atoms two ≡ true → true ≡ is_loose g h to (bond one two)
  unfolding is_loose
  loose_two s t = rw (s, t)

  pub loose_apart : (r : Bool) (x y : ℕ) → is_outside g.atoms one ≡ false → is_outside g.atoms two ≡ false → x ≡ partner to one → y ≡ partner to two
      → r ≡ any_joins h.bonds x y → not r ≡ is_loose g h to (bond one two)
  unfolding is_loose bonded
  loose_apart r x y s t e f b = rw (s, t) (ap not (b ∙ ap₂ (any_joins h.bonds) e f))

-- the places in their order
or_first : (a : ℕ) (f : Unit {0} → ℕ) → (a ≡ 0 → ⊥) → a ≡ (a or_else f)
or_first zero f n = absurd (n refl)
or_first (suc a) f n = refl

module _ (g h : Graph) (to : List ℕ) (r : ℕ) where
  pub place_lost : r ≡ first_atom g.atoms 1 (is_lost to) → (r ≡ 0 → ⊥) → r ≡ match_place g h to
  unfolding match_place
  place_lost e n = e ∙ or_first (first_atom g.atoms 1 (is_lost to)) _ (λ z. n (e ∙ z))

  pub place_loose : first_atom g.atoms 1 (is_lost to) ≡ 0 → r ≡ first_bond (g.atoms + 1) (is_loose g h to) g.bonds → (r ≡ 0 → ⊥) → r ≡ match_place g h to
  unfolding match_place
  place_loose z e n = rw z (e ∙ or_first (first_bond (g.atoms + 1) (is_loose g h to) g.bonds) _ (λ z. n (e ∙ z)))

  pub place_new : first_atom g.atoms 1 (is_lost to) ≡ 0 → first_bond (g.atoms + 1) (is_loose g h to) g.bonds ≡ 0
      → r ≡ first_bond (g.atoms + length g.bonds + 1) (is_unlisted g to) h.bonds → r ≡ match_place g h to
  unfolding match_place
  place_new z y e = rw (z, y) e
