-- Laws. What a deck that is not refused keeps to, whichever its form. Assumes nothing.
use Rattle.std.specs.Prelude.{ℕ, ◌-◌, ◌≤◌, ◌<◌, Bool, true, false, not, cond, List, [], ◌∷◌, ◌≡◌, eqb, ltb, length}
use Rattle.std.proofs.Common.{sym, arith, eqb-true, ltb-false}
use Rattle.std.proofs.Math.Path.{ap}
use Rattle.std.proofs.lemmas.Bool.{eqb-false, not-true}
use Rattle.graph.specs.Graph.{Within, degree}
use Rattle.graph.specs.Assembly.{atom_of, Assembled, Placed}
use Rattle.graph.specs.Bonds.{both}
use Rattle.reply.specs.Read.{read, ◌then◌, refuse_if}
use Rattle.reply.specs.Chain.{then-read, if_read}
use Rattle.block.specs.Block.{most_atoms, limit}
use Rattle.block.specs.Told as told
use Rattle.records.specs.Records.{assembly_kind, payload_at}
use Rattle.assembly.specs.Book.{find, is_numbered, used, book_of, most_blocks}
use Rattle.assembly.specs.Placements.{most_placements, placement_count, placement_at, join_on, graph_on, bonds_on, assembly_reply}
use Rattle.assembly.specs.Degrees.{degree_is}
use Rattle.assembly.specs.Sound as assembly
use Rattle.assembly.specs.declared.BlockAt.{BlockAt}
use Rattle.deck.specs.Deck.{longest_deck, Deck, placement_place, blocks_reply, assembly_reply_at, sheet_reply, deck_reply}
use Rattle.deck.specs.Kept.{Each, Standing, kept, unmoved}
use Rattle.deck.specs.Molecule.{placed_in, graph_at, join_at, molecule_of}
use Rattle.deck.specs.declared.Form.{Form}

-- its parts
pub record DeckParts (form : Form) (d : List ℕ) (k : Deck) : Type 0 where
  pub short : length d ≤ longest_deck
  pub blocks : blocks_reply assembly_kind d ≡ read k
  pub assembly : assembly_reply (book_of d k.blocks) (payload_at d k.assembly) ≡ read tt
  pub sheet : sheet_reply form d k.sheet ≡ read tt

pub parts : (form : Form) (d : List ℕ) (k : Deck) → deck_reply form d ≡ read k → DeckParts form d k
unfolding deck_reply assembly_reply_at
parts form d k e =
    let (u, a, f) = then-read (refuse_if (ltb longest_deck (length d)) 20 0) _ e in
    let (l, b, g) = then-read (blocks_reply assembly_kind d) (λ k. assembly_reply_at d k.blocks k.assembly then λ _. sheet_reply form d k.sheet then λ _. read k) f in
    let (v, c, h) = then-read (assembly_reply_at d l.blocks l.assembly) (λ _. sheet_reply form d l.sheet then λ _. read l) g in
    let (w, s, i) = then-read (sheet_reply form d l.sheet) (λ _. read l) h in
    let same : l ≡ k = cc in
    rw (← same) (record {
      short = ltb-false longest_deck (length d) (if_read _ 20 0 a);
      blocks = b;
      assembly = unmoved (placement_place l.assembly) _ c;
      sheet = s;
    })

-- a block that is found is one of the list
pub found : (d : List ℕ) (bs : List BlockAt) (x : ℕ) → Each (Standing d) bs → used bs x ≡ true → Standing d (find bs x)
unfolding Each find
found d [] x s u =
    let (p, q) = both (not (eqb x 0)) (eqb 0 x) u in
    absurd (eqb-false x 0 (not-true (eqb x 0) p) (sym (eqb-true 0 x q)))
found d (b ∷ bs) x s u = go (eqb b.number x) u (found d bs x s.1)
  where
    go : (t : Bool) → is_numbered (cond t b (find bs x)) x ≡ true → (used bs x ≡ true → Standing d (find bs x)) → Standing d (cond t b (find bs x))
    go true v more = s.0
    go false v more = more v

-- What holds of a deck that is read.
pub record WholeDeck (d : List ℕ) (k : Deck) : Type 0 where
  pub short : length d ≤ longest_deck
  pub blocks : Each (Standing d) k.blocks
  pub few : length k.blocks ≤ most_blocks
  -- 1 to 32 placements, each of a block that stands in the deck, has at most 64 atoms and is a molecule
  pub count : Within most_placements k.placements
  pub stands : (i : ℕ) → i < k.placements → Standing d (find k.blocks (placed_in d k i).block)
  pub atoms : (i : ℕ) → i < k.placements → Within most_atoms (graph_at d k i).atoms
  -- parents are earlier, and join atoms exist
  pub assembled : Assembled (graph_at d k) (join_at d k) (k.placements - 1)
  -- what 19 counts on a placed atom is what it has in the molecule written out, and is within the limit
  pub counted : {p a : ℕ} → Placed (graph_at d k) (k.placements - 1) p a
      → degree (molecule_of d k).bonds (atom_of (graph_at d k) p a) ≡ bonds_on (graph_at d k (p - 1)) (join_at d k) (k.placements - 1) p a
  pub bonds : {p a : ℕ} → Placed (graph_at d k) (k.placements - 1) p a → degree (molecule_of d k).bonds (atom_of (graph_at d k) p a) ≤ limit

module _ (form : Form) (d : List ℕ) (k : Deck) (e : deck_reply form d ≡ read k) where
  book_has : (x : ℕ) → (book_of d k.blocks).has x ≡ true → Standing d (find k.blocks x)
  unfolding book_of
  book_has x u = found d k.blocks x (kept assembly_kind d (parts form d k e).blocks).blocks u

  pub whole : WholeDeck d k
  unfolding book_of placed_in graph_at join_at molecule_of
  whole =
      let p = parts form d k e in
      let q = kept assembly_kind d p.blocks in
      let w = assembly.whole (book_of d k.blocks) (payload_at d k.assembly) p.assembly in
      let n : k.placements ≡ placement_count (payload_at d k.assembly) = ap (λ (x : Deck). x.placements) q.places in
      let blocks = graph_on (book_of d k.blocks) (placement_at (payload_at d k.assembly)) in
      let joins = join_on (placement_at (payload_at d k.assembly)) in
      let a : Assembled blocks joins (k.placements - 1) = rw n (assembly.assembled (book_of d k.blocks) (payload_at d k.assembly) (λ x u. told.molecule _ _ (book_has x u).fine) w) in
      let stands : ((i : ℕ) → i < k.placements → Standing d (find k.blocks (placed_in d k i).block)) = λ i h. book_has _ (w.right.has i (omega arith)) in
      record {
        short = p.short;
        blocks = q.blocks;
        few = q.few;
        count = rw n w.count;
        stands = stands;
        atoms = λ i h. told.few_atoms _ _ (stands i h).fine;
        assembled = a;
        counted = λ r. degree_is blocks joins (k.placements - 1) a r;
        bonds = λ r. assembly.few_bonds blocks joins (k.placements - 1) a (λ i v h. told.few_bonds _ _ (stands i (omega (arith, w.count))).fine v) (λ i l h. w.right.joined i l (omega (arith, w.count))) r;
      }
