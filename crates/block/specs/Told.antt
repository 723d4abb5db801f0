-- Laws. What a block tells that is not refused: it is a molecule of at most 64 atoms, none with more bonds than the limit, and its rows hold its distances and the largest of them. Assumes nothing.
use Prim.Native.Nat.{ℕ, zero, suc, ◌+◌, ◌-◌, ◌%◌, ◌≤◌}
use Rattle.std.specs.Prelude.{Bool, true, false, ◌||◌, not, ◌≡◌, refl, eqb, length, get_or}
use Rattle.std.proofs.Math.Bool.{cond}
use Rattle.std.proofs.Common.{true≢false, inl, inr, ⊎_elim, sym, ◌∙◌, lt-ltb, le-ltb, ne_eqb, eq-eqb}
use mathlib.Core.List.{List, [], ◌∷◌}
use native.Mathlib.Omega.{arith}
use Rattle.std.proofs.Math.Decide.{ℕ_discrete}
use Rattle.std.proofs.Math.Dec.{ltb}
use Rattle.std.proofs.lemmas.Bool.{not-false}
use Rattle.graph.specs.Graph.{Bond, Within, Sound, Molecule, any_joins, bonded, connected, degree, distance}
use Rattle.graph.specs.Farthest.{farthest}
use Rattle.graph.specs.Bonds.{Joins, any_out, any_head, any_tail, any_none, bonded_sym}
use Rattle.graph.specs.Connected.{connected_molecule}
use Rattle.graph.specs.Distance.{not_true}
use Rattle.graph.specs.Notions.{Plain}
use Rattle.reply.specs.Read.{Read, refused, read, ◌then◌, refuse_if, refuse_for, refusal, is_outside}
use Rattle.reply.specs.Chain.{not_read, then-read, if_read, for_read}
use Rattle.block.specs.Block.{most_atoms, most_bytes, limit, bonds_of, graph_of, bond_fault, bonds_reply, block_reply, drawn_reply}
use Rattle.block.specs.Rows.{row_of, row_reply, said_row, rows_of, far_of, distance_at}
use Rattle.block.specs.Faults.{inside, Faultless, faultless}
use Rattle.block.specs.Tables.{get_or-table}
use Rattle.reply.specs.declared.Refusal.{Refusal}

-- one of the atoms 1 to n
pub within_inside : (n a : ℕ) → Within n a → is_outside n a ≡ false
within_inside n a w = rw (ne_eqb a 0 (omega arith), le-ltb n a w.high)

-- what rows have
pub distance_found : (rows : List (List ℕ)) (a b : ℕ) → Within most_atoms a → Within most_atoms b → distance_at rows a b ≡ get_or (get_or rows (a - 1) []) (b - 1) 0
unfolding distance_at
distance_found rows a b v w = rw (within_inside most_atoms a v, within_inside most_atoms b w)

-- a bond joins two atoms of 1 to n that none of the bonds bs joins
pub record NewBond (n : ℕ) (b : Bond) (bs : List Bond) : Type 0 where
  pub one : Within n b.one
  pub two : Within n b.two
  pub differ : b.one ≡ b.two → ⊥
  pub new : any_joins bs b.one b.two ≡ false

-- the first bond of a list that is read has no fault, and the others are read
bonds_read : (n : ℕ) (before : List Bond) (b : Bond) (bs : List Bond) → bonds_reply n before (b ∷ bs) ≡ read tt → Faultless n before b.one b.two × (bonds_reply n (b ∷ before) bs ≡ read tt)
unfolding bonds_reply
bonds_read n before b bs e =
    let (u, f, r) = then-read (refuse_for (bond_fault n before b) (suc (length before))) (λ _. bonds_reply n (b ∷ before) bs) e in
    (faultless n before b (for_read (bond_fault n before b) (suc (length before)) f), r)

bonds_ends : (n : ℕ) (before bs : List Bond) → bonds_reply n before bs ≡ read tt → (u w : ℕ) → any_joins bs u w ≡ true → Within n u
bonds_ends n before [] e u w j = absurd (any_none u w j)
bonds_ends n before (b ∷ bs) e u w j =
    let (f, r) = bonds_read n before b bs e in
    ⊎_elim (⊎_elim (λ q. rw (← q.0) f.one) (λ q. rw (← q.1) f.two)) (λ i. bonds_ends n (b ∷ before) bs r u w i) (any_out b bs u w j)

-- what is joined by the bonds before is joined by none that follows
bonds_new : (n : ℕ) (before bs : List Bond) → bonds_reply n before bs ≡ read tt → (u v : ℕ) → any_joins before u v ≡ true → any_joins bs u v ≡ false
unfolding bonded
bonds_new n before [] e u v j = not_true (any_joins [] u v) (any_none u v)
bonds_new n before (b ∷ bs) e u v j =
    let (f, r) = bonds_read n before b bs e in
    not_true (any_joins (b ∷ bs) u v)
    (λ k. ⊎_elim (λ q. true≢false (sym (joined q) ∙ f.new)) (λ q. true≢false (sym q ∙ bonds_new n (b ∷ before) bs r u v (any_tail b before u v j))) (any_out b bs u v k))
  where
    joined : Joins b u v → any_joins before b.one b.two ≡ true
    joined (inl q) = rw (q.0, q.1) j
    joined (inr q) = rw (q.0, q.1) (bonded_sym (record { atoms = n; bonds = before }) u v j)

-- the bonds that are read, one by one from the last: each joins two atoms that no later one joins
bonds_by : (n : ℕ) (P : List Bond → Type 0) → P [] → ((b : Bond) (bs : List Bond) → NewBond n b bs → P bs → P (b ∷ bs)) → (before bs : List Bond) → bonds_reply n before bs ≡ read tt → P bs
bonds_by n P none more before [] e = none
bonds_by n P none more before (b ∷ bs) e =
    let (f, r) = bonds_read n before b bs e in
    more b bs (record { one = f.one; two = f.two; differ = f.differ; new = bonds_new n (b ∷ before) bs r b.one b.two (any_head b before b.one b.two (inl (refl, refl))) })
    (bonds_by n P none more (b ∷ before) bs r)

pub bonds_plain : (n : ℕ) (before bs : List Bond) → bonds_reply n before bs ≡ read tt → Plain n bs
unfolding Plain
bonds_plain n = bonds_by n (Plain n) tt (λ b bs p rest. (record { one = p.one; two = p.two; apart = p.differ }, p.new, rest))

bonds_degrees : (n : ℕ) (before bs : List Bond) → bonds_reply n before bs ≡ read tt → (v : ℕ) → degree before v ≤ limit → degree before v + degree bs v ≤ limit
unfolding degree
bonds_degrees n before [] e v l = omega arith
bonds_degrees n before (b ∷ bs) e v l =
    let (f, r) = bonds_read n before b bs e in
    omega (arith, bonds_degrees n (b ∷ before) bs r v (at (ℕ_discrete b.one v) (ℕ_discrete b.two v) f))
  where
    at : Dec (b.one ≡ v) → Dec (b.two ≡ v) → Faultless n before b.one b.two → degree (b ∷ before) v ≤ limit
    at (yes p) (yes q) f = absurd (f.differ (p ∙ sym q))
    at (yes p) (no q) f = rw (eq-eqb b.one v p, ne_eqb b.two v q) (omega (arith, rw p at f.room_one))
    at (no p) (yes q) f = rw (ne_eqb b.one v p, eq-eqb b.two v q) (omega (arith, rw q at f.room_two))
    at (no p) (no q) f = rw (ne_eqb b.one v p, ne_eqb b.two v q) (omega arith)

-- a refused block: the place is at most the number of bonds
bonds_place : (n : ℕ) (before bs : List Bond) (r : Refusal) → bonds_reply n before bs ≡ refused r → r.place ≤ length before + length bs
unfolding bonds_reply
bonds_place n before [] r e = absurd (not_read (sym e))
bonds_place n before (b ∷ bs) r e = go (bond_fault n before b) e (bonds_place n (b ∷ before) bs r)
  where
    go : (f : ℕ) → (refuse_for f (suc (length before)) then λ _. bonds_reply n (b ∷ before) bs) ≡ refused r
        → (bonds_reply n (b ∷ before) bs ≡ refused r → r.place ≤ length (b ∷ before) + length bs) → r.place ≤ length before + length (b ∷ bs)
    go zero q h = omega (arith, h q)
    go (suc f) q h = let p : suc (length before) ≡ r.place = cc in omega arith

pub place_within : (n : ℕ) (xs : List ℕ) (r : Refusal) → block_reply n xs ≡ refused r → r.place ≤ length (bonds_of xs)
unfolding block_reply
place_within n xs r e =
    go (is_outside most_atoms n) (not (eqb (length xs % 2) 0) || ltb most_bytes (length xs)) (bonds_reply n [] (bonds_of xs)) (not (connected (graph_of n xs))) e
    (bonds_place n [] (bonds_of xs) r)
  where
    zero_place : {k : ℕ} → ◌≡◌ {A = Read (Unit {0})} (refused (refusal k 0)) (refused r) → r.place ≤ length (bonds_of xs)
    zero_place q = let p : 0 ≡ r.place = cc in omega arith

    go : (s t : Bool) (m : Read (Unit {0})) (u : Bool) → (refuse_if s 1 0 then λ _. refuse_if t 2 0 then λ _. m then λ _. refuse_if u 7 0) ≡ refused r
        → (m ≡ refused r → r.place ≤ 0 + length (bonds_of xs)) → r.place ≤ length (bonds_of xs)
    go true t m u q h = zero_place q
    go false true m u q h = zero_place q
    go false false (refused s) u q h = omega (arith, h q)
    go false false (read v) true q h = zero_place q
    go false false (read v) false q h = absurd (not_read (sym q))

-- refusals 1 to 6, and then 7
pub block_drawn : (n : ℕ) (xs : List ℕ) → block_reply n xs ≡ (drawn_reply n xs then λ _. refuse_if (not (connected (graph_of n xs))) 7 0)
unfolding block_reply drawn_reply
block_drawn n xs = go (is_outside most_atoms n) (not (eqb (length xs % 2) 0) || ltb most_bytes (length xs)) (bonds_reply n [] (bonds_of xs)) (refuse_if (not (connected (graph_of n xs))) 7 0)
  where
    go : (s t : Bool) (m w : Read (Unit {0})) → (refuse_if s 1 0 then λ _. refuse_if t 2 0 then λ _. m then λ _. w) ≡ ((refuse_if s 1 0 then λ _. refuse_if t 2 0 then λ _. m) then λ _. w)
    go true t m w = refl
    go false true m w = refl
    go false false (refused r) w = refl
    go false false (read u) w = refl

pub drawn_refused : (n : ℕ) (xs : List ℕ) (r : Refusal) → drawn_reply n xs ≡ refused r → block_reply n xs ≡ refused r
drawn_refused n xs r e = rw (block_drawn n xs, e)

-- a block that 1 to 6 do not refuse, connected or not
module _ (n : ℕ) (xs : List ℕ) (drawn : drawn_reply n xs ≡ read tt) where
  pub record Tested : Type 0 where
    pub size : is_outside most_atoms n ≡ false
    pub bytes : (not (eqb (length xs % 2) 0) || ltb most_bytes (length xs)) ≡ false
    pub bonds : bonds_reply n [] (bonds_of xs) ≡ read tt

  pub tested : Tested
  unfolding drawn_reply
  tested =
      let (u, a, f) = then-read (refuse_if (is_outside most_atoms n) 1 0) _ drawn in
      let (v, b, g) = then-read (refuse_if (not (eqb (length xs % 2) 0) || ltb most_bytes (length xs)) 2 0) _ f in
      record { size = if_read (is_outside most_atoms n) 1 0 a; bytes = if_read (not (eqb (length xs % 2) 0) || ltb most_bytes (length xs)) 2 0 b; bonds = g }

  pub drawn_atoms : Within most_atoms n
  drawn_atoms = inside most_atoms n tested.size

  pub drawn_sound : Sound (graph_of n xs)
  unfolding bonded
  drawn_sound = record { ends = bonds_ends n [] (bonds_of xs) tested.bonds }

  pub drawn_plain : Plain n (bonds_of xs)
  drawn_plain = bonds_plain n [] (bonds_of xs) tested.bonds

  pub drawn_degrees : (v : ℕ) → degree (bonds_of xs) v ≤ limit
  unfolding degree
  drawn_degrees v = omega (arith, bonds_degrees n [] (bonds_of xs) tested.bonds v (omega arith))

module _ (n : ℕ) (xs : List ℕ) (fine : block_reply n xs ≡ read tt) where
  told : (u : Unit {0}) × (drawn_reply n xs ≡ read u) × (refuse_if (not (connected (graph_of n xs))) 7 0 ≡ read tt)
  told = then-read (drawn_reply n xs) _ (sym (block_drawn n xs) ∙ fine)

  pub fine_drawn : drawn_reply n xs ≡ read tt
  fine_drawn = told.1

  -- the tests that it passed
  pub record Passed : Type 0 where
    pub size : is_outside most_atoms n ≡ false
    pub bytes : (not (eqb (length xs % 2) 0) || ltb most_bytes (length xs)) ≡ false
    pub bonds : bonds_reply n [] (bonds_of xs) ≡ read tt
    pub whole : connected (graph_of n xs) ≡ true

  pub passed : Passed
  passed =
      let t = tested n xs fine_drawn in
      record { size = t.size; bytes = t.bytes; bonds = t.bonds; whole = not-false (connected (graph_of n xs)) (if_read (not (connected (graph_of n xs))) 7 0 told.2) }

  pub few_atoms : Within most_atoms n
  few_atoms = drawn_atoms n xs fine_drawn

  pub sound : Sound (graph_of n xs)
  sound = drawn_sound n xs fine_drawn

  pub molecule : Molecule (graph_of n xs)
  molecule = connected_molecule sound passed.whole

  pub few_bonds : (v : ℕ) → degree (bonds_of xs) v ≤ limit
  few_bonds = drawn_degrees n xs fine_drawn

  -- induction over its bonds
  pub each_bond : (P : List Bond → Type 0) → P [] → ((b : Bond) (bs : List Bond) → NewBond n b bs → P bs → P (b ∷ bs)) → P (bonds_of xs)
  each_bond P none more = bonds_by n P none more [] (bonds_of xs) passed.bonds

  -- the row of an atom, and what stands in it for an atom
  pub row_read : {a : ℕ} → Within n a → row_reply n xs a ≡ read (row_of (graph_of n xs) a, farthest (graph_of n xs) a)
  unfolding row_reply
  row_read {a} w = rw (fine, within_inside n a w)

  pub row_at : {a : ℕ} → Within n a → get_or (rows_of n xs) (a - 1) [] ≡ row_of (graph_of n xs) a
  unfolding rows_of
  row_at {a} w =
      let k : suc (a - 1) ≡ a = omega arith in
      get_or-table most_atoms (λ i. (said_row (row_reply n xs (suc i))).row) (a - 1) [] (omega (arith, few_atoms))
      ∙ rw (k, row_read w)

  pub farthest_at : {a : ℕ} → Within n a → get_or (far_of n xs) (a - 1) 0 ≡ farthest (graph_of n xs) a
  unfolding far_of
  farthest_at {a} w =
      let k : suc (a - 1) ≡ a = omega arith in
      get_or-table most_atoms (λ i. (said_row (row_reply n xs (suc i))).largest) (a - 1) 0 (omega (arith, few_atoms))
      ∙ rw (k, row_read w)

  pub entry_at : (a : ℕ) {b : ℕ} → Within n b → get_or (row_of (graph_of n xs) a) (b - 1) 0 ≡ distance (graph_of n xs) a b
  unfolding row_of
  entry_at a {b} w =
      let k : suc (b - 1) ≡ b = omega arith in
      get_or-table most_atoms (λ j. cond (ltb j n) (distance (graph_of n xs) a (suc j)) 0) (b - 1) 0 (omega (arith, few_atoms))
      ∙ rw (lt-ltb (b - 1) n (omega arith), k)

  -- the entry of one atom in the row of another
  pub distance_at_lem : {a b : ℕ} → Within n a → Within n b → get_or (get_or (rows_of n xs) (a - 1) []) (b - 1) 0 ≡ distance (graph_of n xs) a b
  distance_at_lem {a} v w = rw (row_at v) (entry_at a w)
