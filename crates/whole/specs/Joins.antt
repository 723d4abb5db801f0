-- Laws. The joins of a deck that is read: where a placement's parent stands, how far atoms are counted, and the bond that joins it. Assumes nothing.
use Prim.Native.Nat.{ℕ, zero, suc, ◌+◌, ◌*◌, ◌-◌, ◌/◌, ◌%◌, ◌≤◌, ◌<◌}
use Rattle.std.specs.Prelude.{not, List, [], ◌∷◌, ◌++◌, ◌≡◌, eqb, ltb, length}
use Rattle.std.proofs.Math.Path.{refl}
use Rattle.std.proofs.Common.{sym, ◌∙◌, ap, ap₂, add-one, ltb-false, length-append}
use native.Mathlib.Omega.{arith}
use Rattle.std.proofs.lemmas.List.Edits.{sets}
use Rattle.graph.specs.Graph.{Bond, bond, Within, Graph}
use Rattle.graph.specs.Assembly.{Join, shifted, start_at}
use Rattle.reply.specs.Chain.{neither}
use Rattle.block.specs.Block.{bonds_of, most_atoms, most_bytes}
use Rattle.block.specs.Numbered.{bonds_length}
use Rattle.block.specs.Told as told
use Rattle.records.specs.Records.{payload_at}
use Rattle.assembly.specs.Book.{find, bond_bytes, book_of}
use Rattle.assembly.specs.declared.BlockAt.{BlockAt}
use Rattle.assembly.specs.declared.Placement.{Placement}
use Rattle.assembly.specs.Placements.{placement_at, join_of}
use Rattle.deck.specs.Deck.{Deck}
use Rattle.deck.specs.Molecule.{placed_in, graph_at, join_at}
use Rattle.deck.specs.Sound.{WholeDeck}
use Rattle.whole.specs.Whole.{pair_numbers}
use Rattle.whole.specs.Work.{most_brought, block_numbers, joins_of, joining, brought, bonds_before}
use Rattle.whole.specs.Laws.{shifted-length, pairs_length, pairs_append, sets_append}

module _ {d : List ℕ} {deck : Deck} (w : WholeDeck d deck) where
  pub start_few : (k : ℕ) → k ≤ deck.placements → start_at (graph_at d deck) k ≤ most_atoms * k
  unfolding start_at
  start_few zero h = omega arith
  start_few (suc k) h = let a = w.atoms k (omega arith) in let b = start_few k (omega arith) in omega (arith, a.high)

  module _ (k : ℕ) (low : 1 ≤ k) (high : k < deck.placements) (p : Placement) (e : p ≡ placement_at (payload_at d deck.assembly) k) where
    pub parent_earlier : Within k p.parent
    unfolding join_at placed_in join_of
    parent_earlier = rw e (w.assembled.stands k low (omega arith)).parent

    pub joining_is : joining (graph_at d deck) (join_at d deck) k ≡ bond (start_at (graph_at d deck) (p.parent - 1) + p.site) (start_at (graph_at d deck) k + p.own) ∷ []
    joining_is = rw e (later k low)
      where
        later : (k : ℕ) → 1 ≤ k → joining (graph_at d deck) (join_at d deck) k ≡ bond (start_at (graph_at d deck) ((placement_at (payload_at d deck.assembly) k).parent - 1) + (placement_at (payload_at d deck.assembly) k).site) (start_at (graph_at d deck) k + (placement_at (payload_at d deck.assembly) k).own) ∷ []
        later zero h = absurd (omega arith)
        later (suc k) h = unfold joining join_at placed_in join_of in refl

pub joining_none : (d : List ℕ) (deck : Deck) → joining (graph_at d deck) (join_at d deck) 0 ≡ []
unfolding joining
joining_none d deck = refl

-- the block of a placement: its bonds, and that they take few enough bytes
module _ {d : List ℕ} {deck : Deck} (w : WholeDeck d deck) (k : ℕ) (high : k < deck.placements) (b : BlockAt) (e : b ≡ find deck.blocks (placed_in d deck k).block) where
  pub bonds_few : length (bond_bytes d b) ≤ most_bytes
  bonds_few =
      let p = neither (not (eqb (length (bond_bytes d b) % 2) 0)) (ltb most_bytes (length (bond_bytes d b))) (rw e (told.passed _ _ (w.stands k high).fine).bytes) in
      ltb-false most_bytes (length (bond_bytes d b)) p.1

  pub bonds_are : (graph_at d deck k).bonds ≡ bonds_of (bond_bytes d b)
  unfolding graph_at book_of
  bonds_are = rw e

-- a block's bonds, then its join
pub brought_numbers : (blocks : ℕ → Graph) (joins : ℕ → Join) (k : ℕ) (xs out next last : List ℕ) (at : ℕ) → (blocks k).bonds ≡ bonds_of xs
    → next ≡ sets out at (block_numbers (start_at blocks k) xs) → last ≡ sets next (at + 2 * (length xs / 2)) (pair_numbers (joining blocks joins k)) → last ≡ sets out at (pair_numbers (brought blocks joins k))
unfolding brought block_numbers
brought_numbers blocks joins k xs out next last at b e f =
    let n = shifted-length (start_at blocks k) (bonds_of xs) in
    let m : length (pair_numbers (shifted (start_at blocks k) (bonds_of xs))) ≡ 2 * (length xs / 2) = pairs_length _ ∙ ap (λ (n : ℕ). 2 * n) (n ∙ bonds_length xs) in
    f
    ∙ ap₂ (λ (l : List ℕ) (n : ℕ). sets l (at + n) (pair_numbers (joining blocks joins k))) e (sym m)
    ∙ sets_append out at (pair_numbers (shifted (start_at blocks k) (bonds_of xs))) (pair_numbers (joining blocks joins k))
    ∙ ap (sets out at) (sym (pairs_append (shifted (start_at blocks k) (bonds_of xs)) (joining blocks joins k)) ∙ ap (λ (bs : List Bond). pair_numbers (shifted (start_at blocks k) bs ++ joining blocks joins k)) (sym b))

pub brought-length : (blocks : ℕ → Graph) (joins : ℕ → Join) (k : ℕ) (xs : List ℕ) → (blocks k).bonds ≡ bonds_of xs → length (brought blocks joins k) ≡ length xs / 2 + length (joining blocks joins k)
unfolding brought
brought-length blocks joins k xs b =
    rw b (length-append (shifted (start_at blocks k) (bonds_of xs)) (joining blocks joins k) ∙ ap (λ (n : ℕ). n + length (joining blocks joins k)) (shifted-length (start_at blocks k) (bonds_of xs) ∙ bonds_length xs))

pub joining-length : (blocks : ℕ → Graph) (joins : ℕ → Join) (k : ℕ) → length (joining blocks joins k) ≡ joins_of k
unfolding joining joins_of
joining-length blocks joins zero = refl
joining-length blocks joins (suc k) = refl

joins_few : (k : ℕ) → joins_of k ≤ 1
unfolding joins_of
joins_few zero = omega arith
joins_few (suc k) = omega arith

pub joining_few : (blocks : ℕ → Graph) (joins : ℕ → Join) (k : ℕ) → length (joining blocks joins k) ≤ 1
joining_few blocks joins k = omega (arith, joining-length blocks joins k, joins_few k)

-- placement by placement
module _ (blocks : ℕ → Graph) (joins : ℕ → Join) where
  pub before_none : bonds_before blocks joins 0 ≡ []
  unfolding bonds_before
  before_none = refl

  pub before_more : (k : ℕ) → bonds_before blocks joins (k + 1) ≡ bonds_before blocks joins k ++ brought blocks joins k
  unfolding bonds_before
  before_more k = rw (add-one k)

  pub before_length : (k : ℕ) → length (bonds_before blocks joins (k + 1)) ≡ length (bonds_before blocks joins k) + length (brought blocks joins k)
  before_length k = ap length (before_more k) ∙ length-append (bonds_before blocks joins k) (brought blocks joins k)

  pub before_numbers : (k : ℕ) (out next last : List ℕ) (at : ℕ) → at ≡ 2 * length (bonds_before blocks joins k) → next ≡ sets out 0 (pair_numbers (bonds_before blocks joins k))
      → last ≡ sets next at (pair_numbers (brought blocks joins k)) → last ≡ sets out 0 (pair_numbers (bonds_before blocks joins (k + 1)))
  before_numbers k out next last at a e f =
      let m : at ≡ 0 + length (pair_numbers (bonds_before blocks joins k)) = omega (arith, a, pairs_length (bonds_before blocks joins k)) in
      f
      ∙ ap₂ (λ (l : List ℕ) (n : ℕ). sets l n (pair_numbers (brought blocks joins k))) e m
      ∙ sets_append out 0 (pair_numbers (bonds_before blocks joins k)) (pair_numbers (brought blocks joins k))
      ∙ ap (sets out 0) (sym (pairs_append (bonds_before blocks joins k) (brought blocks joins k)) ∙ ap pair_numbers (sym (before_more k)))

-- the bonds of the placements before an index take few enough numbers
pub before_few : {d : List ℕ} {deck : Deck} → WholeDeck d deck → (k : ℕ) → k ≤ deck.placements → 2 * length (bonds_before (graph_at d deck) (join_at d deck) k) ≤ most_brought * k
unfolding bonds_before
before_few w zero h = omega arith
before_few {d} {deck} w (suc k) h =
    let b = find deck.blocks (placed_in d deck k).block in
    let blocks = graph_at d deck in
    let joins = join_at d deck in
    omega (
      arith,
      before_few w k (omega arith),
      length-append (bonds_before blocks joins k) (brought blocks joins k),
      brought-length blocks joins k (bond_bytes d b) (bonds_are w k (omega arith) b refl),
      bonds_few w k (omega arith) b refl,
      joining_few blocks joins k,
    )
