-- Laws. Every refusal that an answer of the library can be has a number from 1 to 253 and a place below a bound. Assumes nothing.
use Prim.Native.Nat.{ℕ, zero, suc, ◌+◌, ◌%◌, ◌≤◌, ◌<◌}
use Rattle.std.specs.Prelude.{Bool, ◌&&◌, ◌||◌, not, cond, List, [], ◌∷◌, ◌++◌, ◌≡◌, refl, ltb, length}
use Rattle.std.proofs.Math.Bool.{true, false}
use Rattle.std.proofs.Common.{ap, ltb-false}
use native.Mathlib.Omega.{arith}
use Rattle.std.proofs.Math.Dec.{eqb, leb}
use Rattle.graph.specs.Graph.{Bond, connected, degree, any_joins}
use Rattle.graph.specs.Assembly.{Join}
use Rattle.reply.specs.Read.{Read, refused, read, ◌then◌, refuse_if, refuse_for, refusal, is_outside, if_else}
use Rattle.reply.specs.Chain.{if_read, neither}
use Rattle.reply.specs.declared.Refusal.{Refusal}
use Rattle.block.specs.Block.{most_atoms, most_bytes, limit, bonds_of, graph_of, bond_fault, bonds_reply, block_reply}
use Rattle.records.specs.Records.{block_kind, assembly_kind, kind_at, end_at, payload_at, kind_reply, is_wrong, length_reply, record_reply}
use Rattle.records.specs.Taken.{taken}
use Rattle.records.specs.declared.Kind.{Kind}
use Rattle.assembly.specs.Book.{Book, used, bond_bytes, book_of, most_blocks}
use Rattle.assembly.specs.Placements.{most_placements, placement_count, placement_at, Shelf, shelf_of, is_full, first_fault, parent_fault, join_fault, later_fault, fault, placements_reply, shelf_reply, assembly_reply}
use Rattle.assembly.specs.declared.Placement.{Placement}
use Rattle.assembly.specs.declared.JoinSite.{JoinSite}
use Rattle.assembly.specs.declared.BlockAt.{BlockAt}
use Rattle.deck.specs.Deck.{longest_deck, kinds_after, sheet_kinds, Deck, block_at, moved, bond_place, block_place, placement_place, block_reply_at, deck_at, blocks_from, blocks_reply, open_reply, assembly_reply_at, end_reply, sheet_reply, deck_reply}
use Rattle.deck.specs.Kept.{kept}
use Rattle.deck.specs.declared.Form.{Form}
use Rattle.deck.specs.declared.Form.TheVariants.{Composed, Judged}
use Rattle.calls.specs.Convention.{most_place}

-- the largest number of a refusal: 254 and 255 say something else
abbrev pub most_number : ℕ
most_number = 253

pub record SmallRefusal (bound : ℕ) (r : Refusal) : Type 0 where
  pub low : 1 ≤ r.number
  pub high : r.number ≤ most_number
  pub place : r.place < bound

-- every refusal that an answer can be is small
abbrev pub Bounded : {A : Type 0} → ℕ → Read A → Type 0
Bounded c (refused r) = SmallRefusal c r
Bounded c (read x) = Unit {0}

pub then_bounded : {A B : Type 0} (c : ℕ) (m : Read A) (f : A → Read B) → Bounded c m → ((a : A) → m ≡ read a → Bounded c (f a)) → Bounded c (m then f)
then_bounded c (refused r) f h k = h
then_bounded c (read a) f h k = k a refl

pub if_bounded : (c : ℕ) (t : Bool) (n p : ℕ) → SmallRefusal c (refusal n p) → Bounded c (refuse_if t n p)
if_bounded c true n p s = s
if_bounded c false n p s = tt

pub for_bounded : (c n p : ℕ) → n ≤ most_number → p < c → Bounded c (refuse_for n p)
for_bounded c zero p l h = tt
for_bounded c (suc n) p l h = record { low = omega arith; high = omega arith; place = h }

pub wider : {A : Type 0} (b c : ℕ) (x : Read A) → b ≤ c → Bounded b x → Bounded c x
wider b c (refused r) l s = record { low = s.low; high = s.high; place = omega (arith, s.place) }
wider b c (read x) l s = tt

-- A block: the place is at most the number of bonds.
fault_chain : (p q r s : Bool) → cond p 3 (cond q 4 (cond r 5 (cond s 6 0))) ≤ most_number
fault_chain true q r s = omega arith
fault_chain false true r s = omega arith
fault_chain false false true s = omega arith
fault_chain false false false true = omega arith
fault_chain false false false false = omega arith

pub bond_number : (n : ℕ) (before : List Bond) (b : Bond) → bond_fault n before b ≤ most_number
unfolding bond_fault
bond_number n before b =
    fault_chain (is_outside n b.one || is_outside n b.two) (eqb b.one b.two) (any_joins before b.one b.two)
    (leb limit (degree before b.one) || leb limit (degree before b.two))

pub bonds_bounded : (n c : ℕ) (before bs : List Bond) → length before + length bs < c → Bounded c (bonds_reply n before bs)
unfolding bonds_reply
bonds_bounded n c before [] h = tt
bonds_bounded n c before (b ∷ bs) h =
    then_bounded c (refuse_for (bond_fault n before b) (suc (length before))) _
    (for_bounded c (bond_fault n before b) (suc (length before)) (bond_number n before b) (omega arith))
    (λ u e. bonds_bounded n c (b ∷ before) bs (omega arith))

pub fewer_bonds : (xs : List ℕ) → length (bonds_of xs) ≤ length xs
unfolding bonds_of
fewer_bonds [] = omega arith
fewer_bonds (a ∷ []) = omega arith
fewer_bonds (a ∷ (b ∷ xs)) = omega (arith, fewer_bonds xs)

pub block_bounded : (n : ℕ) (xs : List ℕ) → Bounded (suc most_bytes) (block_reply n xs)
unfolding block_reply
block_bounded n xs =
    let c = suc most_bytes in
    let bytes = not (eqb (length xs % 2) 0) || ltb most_bytes (length xs) in
    then_bounded c (refuse_if (is_outside most_atoms n) 1 0) _ (if_bounded c (is_outside most_atoms n) 1 0 (omega arith)) (λ u e.
    then_bounded c (refuse_if bytes 2 0) _ (if_bounded c bytes 2 0 (omega arith)) (λ v f.
    then_bounded c (bonds_reply n [] (bonds_of xs)) _
    (bonds_bounded n c [] (bonds_of xs) (omega (arith, fewer_bonds xs, ltb-false most_bytes (length xs) (neither (not (eqb (length xs % 2) 0)) (ltb most_bytes (length xs)) (if_read bytes 2 0 f)).1))) (λ w g.
    if_bounded c (not (connected (graph_of n xs))) 7 0 (omega arith))))

-- A record: its first byte.
kind_bounded : (c : ℕ) (ks : List Kind) (d : List ℕ) (at : ℕ) → at < c → Bounded c (kind_reply ks d at)
unfolding kind_reply
kind_bounded c [] d at h = omega arith
kind_bounded c (k ∷ ks) d at h = go (eqb (kind_at d at) k.number) (kind_bounded c ks d at h)
  where
    go : (t : Bool) → Bounded c (kind_reply ks d at) → Bounded c (cond t (read k) (kind_reply ks d at))
    go true r = tt
    go false r = r

pub record_bounded : (c : ℕ) (ks : List Kind) (d : List ℕ) (at : ℕ) → at < c → Bounded c (record_reply ks d at)
unfolding record_reply length_reply
record_bounded c ks d at h =
    then_bounded c (refuse_if (ltb (length d) (end_at d at)) 11 at) _ (if_bounded c (ltb (length d) (end_at d at)) 11 at (omega arith)) (λ u e.
    then_bounded c (kind_reply ks d at) (λ k. length_reply k d at) (kind_bounded c ks d at h) (λ k f.
    if_bounded c (is_wrong k d at) 13 at (omega arith)))

-- An assembly: the place is at most the number of placements.
first_number : (q : Placement) → first_fault q ≤ most_number
unfolding first_fault
first_number q = go (eqb q.parent 0 && eqb q.site 0 && eqb q.own 0)
  where
    go : (t : Bool) → cond t 0 17 ≤ most_number
    go true = omega arith
    go false = omega arith

pub either : (t : Bool) (m n : ℕ) → m ≤ most_number → n ≤ most_number → cond t m n ≤ most_number
either true m n h k = h
either false m n h k = k

parent_number : (p : ℕ) → parent_fault p ≤ most_number
unfolding parent_fault
parent_number p = either (eqb p 0) 23 24 (omega arith) (omega arith)

join_number : (g h : JoinSite) (joins : ℕ → Join) (k : ℕ) → join_fault g h joins k ≤ most_number
unfolding join_fault
join_number g h joins k =
    let j = joins k in
    either (is_outside g.atoms j.site || is_outside h.atoms j.own) 18 _ (omega arith)
    (either (is_full g.ends joins k j.parent j.site || leb limit h.ends) 19 0 (omega arith) (omega arith))

module _ (shelf : Shelf) (placed : ℕ → Placement) where
  fault_number : (k : ℕ) → fault shelf placed k ≤ most_number
  unfolding fault later_fault
  fault_number k =
      either (not (shelf.has (placed k).block)) 16 _ (omega arith)
      (either (eqb k 0) (first_fault (placed k)) _ (first_number (placed k))
      (either (is_outside k (placed k).parent) (parent_fault (placed k).parent) _ (parent_number (placed k).parent) (join_number _ _ _ k)))

  placed_bounded : (c k left : ℕ) → k + left < c → Bounded c (placements_reply (fault shelf placed) k left)
  unfolding placements_reply
  placed_bounded c k zero h = tt
  placed_bounded c k (suc left) h =
      then_bounded c (refuse_for (fault shelf placed k) (suc k)) _ (for_bounded c (fault shelf placed k) (suc k) (fault_number k) (omega arith))
      (λ u e. placed_bounded c (suc k) left (omega arith))

pub shelf_bounded : (shelf : Shelf) (xs : List ℕ) → Bounded (suc most_placements) (shelf_reply shelf xs)
shelf_bounded shelf xs =
    let c = suc most_placements in
    let n = placement_count xs in
    then_bounded c (refuse_if (is_outside most_placements n) 15 0) _ (if_bounded c (is_outside most_placements n) 15 0 (omega arith)) (λ u e.
    placed_bounded shelf (placement_at xs) c 0 n (omega (arith, ltb-false most_placements n (neither (eqb n 0) (ltb most_placements n) (if_read _ 15 0 e)).1)))

assembly_bounded : (book : Book) (xs : List ℕ) → Bounded (suc most_placements) (assembly_reply book xs)
unfolding assembly_reply
assembly_bounded book xs = shelf_bounded (shelf_of book) xs

-- A deck: no place is more than the deck's length and what a record's own places add.
first_or_bond : (at c : ℕ) (t : Bool) (j : ℕ) → at < c → bond_place at j < c → cond t at (bond_place at j) < c
first_or_bond at c true j h k = h
first_or_bond at c false j h k = k

pub moved_bounded : {A : Type 0} (b c : ℕ) (place : Refusal → ℕ) (x : Read A) → ((r : Refusal) → r.place < b → place r < c) → Bounded b x → Bounded c (moved place x)
moved_bounded b c place (refused r) h s = record { low = s.low; high = s.high; place = h r s.place }
moved_bounded b c place (read u) h s = tt

module _ (d : List ℕ) (l : length d ≤ longest_deck) where
  at_bounded : (at : ℕ) (done : List BlockAt) → at ≤ length d → Bounded most_place (block_reply_at d at done)
  unfolding block_reply_at
  at_bounded at done h =
      let b = block_at d at in
      let t = eqb b.number 0 || used done b.number || leb most_blocks (length done) in
      then_bounded most_place (refuse_if t 14 at) _ (if_bounded most_place t 14 at (omega arith)) (λ u e.
      moved_bounded (suc most_bytes) most_place (block_place at) (block_reply b.atoms (bond_bytes d b)) (λ r s. first_or_bond at most_place (eqb r.place 0) r.place (omega arith) (omega (arith, s, h, l))) (block_bounded b.atoms (bond_bytes d b)))

  from_bounded : (last : Kind) (fuel at : ℕ) (done : List BlockAt) → at ≤ length d → Bounded most_place (blocks_from fuel last d at done)
  unfolding blocks_from
  from_bounded last zero at done h = omega arith
  from_bounded last (suc fuel) at done h =
      then_bounded most_place (record_reply (kinds_after done last) d at) _ (record_bounded most_place (kinds_after done last) d at (omega arith)) (λ u e.
      go (eqb (kind_at d at) block_kind.number)
      (then_bounded most_place (block_reply_at d at done) _ (at_bounded at done h) (λ v f. from_bounded last fuel (end_at d at) (done ++ block_at d at ∷ []) (taken d at (kinds_after done last) e).whole)))
    where
      go : (t : Bool) → Bounded most_place (block_reply_at d at done then λ _. blocks_from fuel last d (end_at d at) (done ++ block_at d at ∷ []))
          → Bounded most_place (if_else t (λ _. block_reply_at d at done then λ _. blocks_from fuel last d (end_at d at) (done ++ block_at d at ∷ [])) (λ _. read (deck_at d done at)))
      go true r = r
      go false r = tt

  pub end_bounded : (at : ℕ) → at ≤ length d → Bounded most_place (end_reply d at)
  unfolding end_reply
  end_bounded at h = if_bounded most_place (ltb at (length d)) 11 at (omega arith)

  sheet_bounded : (form : Form) (at : ℕ) → at ≤ length d → Bounded most_place (sheet_reply form d at)
  unfolding sheet_reply
  sheet_bounded Composed at h = end_bounded at h
  sheet_bounded Judged at h =
      then_bounded most_place (record_reply sheet_kinds d at) _ (record_bounded most_place sheet_kinds d at (omega arith)) (λ u e. end_bounded (end_at d at) (taken d at sheet_kinds e).whole)

pub open_bounded : (last : Kind) (d : List ℕ) → Bounded most_place (open_reply last d)
unfolding open_reply blocks_reply
open_bounded last d =
    then_bounded most_place (refuse_if (ltb longest_deck (length d)) 20 0) _ (if_bounded most_place (ltb longest_deck (length d)) 20 0 (omega arith)) (λ u e.
    from_bounded d (ltb-false longest_deck (length d) (if_read _ 20 0 e)) last (suc most_blocks) 0 [] (omega arith))

pub deck_bounded : (form : Form) (d : List ℕ) → Bounded most_place (deck_reply form d)
unfolding deck_reply blocks_reply assembly_reply_at
deck_bounded form d =
    then_bounded most_place (refuse_if (ltb longest_deck (length d)) 20 0) _ (if_bounded most_place (ltb longest_deck (length d)) 20 0 (omega arith)) (λ u e.
    let l : length d ≤ longest_deck = ltb-false longest_deck (length d) (if_read _ 20 0 e) in
    then_bounded most_place (blocks_reply assembly_kind d) _ (from_bounded d l assembly_kind (suc most_blocks) 0 [] (omega arith)) (λ k f.
    let q = kept assembly_kind d f in
    let w = (taken d k.assembly (assembly_kind ∷ []) q.after).whole in
    then_bounded most_place (assembly_reply_at d k.blocks k.assembly) _
    (moved_bounded (suc most_placements) most_place (placement_place k.assembly) (assembly_reply (book_of d k.blocks) (payload_at d k.assembly)) (λ r s. omega (arith, w, l, s))
    (assembly_bounded (book_of d k.blocks) (payload_at d k.assembly))) (λ v g.
    then_bounded most_place (sheet_reply form d k.sheet) (λ _. read k) (sheet_bounded d l form k.sheet (omega (arith, w, ap (λ (x : Deck). x.sheet) q.places))) (λ x h. tt))))
