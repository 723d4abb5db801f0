-- Laws. How large a deck that is read can be: no sum over its molecule needs more than 40 bits, and one that composes leaves room for a sheet. Assumes nothing.
use Rattle.std.specs.Prelude.{ℕ, suc, ◌+◌, ◌*◌, ◌-◌, ◌%◌, ◌^◌, ◌≤◌, ◌<◌, not, List, [], ◌∷◌, ◌++◌, ◌≡◌, refl, eqb, ltb, length, drop}
use Rattle.std.proofs.Common.{ap, mul-le-mul, arith, ltb-false, length-append, length-drop, length-take-le}
use Rattle.graph.specs.Graph.{Graph, Molecule, total}
use Rattle.graph.specs.Farthest.{farthest, largest}
use Rattle.graph.specs.Largest.{most_below, largest_is, farthest_below}
use Rattle.graph.specs.Bounds.{Tame, total_most, atoms_most}
use Rattle.graph.specs.Climb.{written_molecule}
use Rattle.reply.specs.Read.{read}
use Rattle.reply.specs.Chain.{if_read, neither}
use Rattle.block.specs.Block.{most_atoms, most_bytes}
use Rattle.block.specs.Told as told
use Rattle.records.specs.Records.{head_bytes, block_kind, assembly_kind, length_at, kind_at, end_at, payload_at, wanted, record_reply}
use Rattle.records.specs.Bytes.{le16}
use Rattle.records.specs.Taken.{of_first, of_one}
use Rattle.records.specs.Stored.{little-part}
use Rattle.records.specs.declared.Kind.{Kind}
use Rattle.assembly.specs.Book.{bond_bytes, most_blocks}
use Rattle.assembly.specs.Placements.{most_placements, placement_count}
use Rattle.assembly.specs.declared.BlockAt.{BlockAt}
use Rattle.deck.specs.Deck.{kinds_after, Deck, block_at, blocks_reply, sheet_reply, end_reply, deck_reply}
use Rattle.deck.specs.Kept.{Standing, BlockFits, record_long, stands, along, kept}
use Rattle.deck.specs.Sound.{parts, whole}
use Rattle.deck.specs.Molecule.{graph_at, join_at, molecule_of}
use Rattle.deck.specs.declared.Form.{Form}
use Rattle.deck.specs.declared.Form.TheVariants.{Composed}

-- the most bytes of a block's record, and of a deck without a sheet
abbrev pub longest_block : ℕ
longest_block = head_bytes + block_kind.fixed + most_bytes

abbrev pub longest_composed : ℕ
longest_composed = most_blocks * longest_block + head_bytes + assembly_kind.fixed + assembly_kind.item * most_placements

module _ (last : Kind) (d : List ℕ) where
  -- a block's bonds are not too many
  few_bytes : (b : BlockAt) → Standing d b → block_kind.item * b.bonds ≤ most_bytes
  few_bytes b s =
      let bytes = bond_bytes d b in
      let t = neither (not (eqb (length bytes % 2) 0)) (ltb most_bytes (length bytes)) (told.passed b.atoms bytes s.fine).bytes in
      omega (arith, s.within, ltb-false most_bytes (length bytes) t.1, length-take-le (block_kind.item * b.bonds) (drop (b.start + block_kind.fixed) d) (omega (arith, s.within, length-drop (b.start + block_kind.fixed) d)))

  short : (at : ℕ) (done : List BlockAt) → record_reply (kinds_after done last) d at ≡ read tt → kind_at d at ≡ block_kind.number → BlockFits d at done → end_at d at ≤ at + longest_block
  short at done e k f = omega (arith, record_long last d at done e k, few_bytes (block_at d at) (stands last d at done e k f))

-- where the record after the blocks stands
pub blocks_short : (last : Kind) (d : List ℕ) (k : Deck) → blocks_reply last d ≡ read k → k.assembly ≤ most_blocks * longest_block
unfolding blocks_reply
blocks_short last d k e =
    let E = along last d (λ at done. (at ≤ length done * longest_block) × (length done ≤ most_blocks))
    (λ at done p r b f. let n : length (done ++ block_at d at ∷ []) ≡ length done + 1 = simp length-append in
    (omega (arith, n, p.0, short last d at done r b f), omega (arith, n, f.room)))
    (suc most_blocks) 0 [] (omega arith, omega arith) e in
    rw (← E.same) (omega (arith, E.holds.0, E.holds.1))

-- the length of a deck that composes
pub composed_short : (d : List ℕ) (k : Deck) → deck_reply Composed d ≡ read k → length d ≤ longest_composed
unfolding sheet_reply end_reply
composed_short d k e =
    let p = parts Composed d k e in
    let q = kept assembly_kind d p.blocks in
    let at = k.assembly in
    let n : length_at d at ≡ wanted assembly_kind d at = of_first d at assembly_kind [] q.after (of_one d at assembly_kind q.after) refl in
    let c : placement_count (payload_at d at) ≡ le16 d (at + head_bytes + 0) = little-part 2 d (at + head_bytes) (length_at d at) 0 (omega (arith, n)) in
    let m : k.placements ≡ placement_count (payload_at d at) = ap (λ (x : Deck). x.placements) q.places in
    let s : k.sheet ≡ end_at d at = ap (λ (x : Deck). x.sheet) q.places in
    let l : length d ≤ k.sheet = ltb-false k.sheet (length d) (if_read _ 11 k.sheet p.sheet) in
    let r : at ≤ most_blocks * longest_block = blocks_short assembly_kind d k p.blocks in
    omega (arith, n, c, m, s, l, r, (whole Composed d k e).count.high)

-- the sums over a molecule of at most as many atoms as a deck's can have
small : {g : Graph} {f : ℕ → ℕ} → Molecule g → g.atoms ≤ most_atoms * most_placements → Tame f → total g f < 2 ^ 40
small m few t = omega (arith, total_most m t, mul-le-mul few (mul-le-mul few few))

module _ (form : Form) (d : List ℕ) (k : Deck) (e : deck_reply form d ≡ read k) where
  -- what a deck describes is a molecule, of at most so many atoms
  pub one_molecule : Molecule (molecule_of d k)
  unfolding molecule_of
  one_molecule = written_molecule (k.placements - 1) (whole form d k e).assembled

  pub atoms_few : (molecule_of d k).atoms ≤ most_atoms * most_placements
  unfolding molecule_of
  atoms_few =
      let w = whole form d k e in
      omega (arith, atoms_most most_atoms (graph_at d k) (join_at d k) (k.placements - 1) (λ i h. (w.atoms i (omega (arith, w.count))).high), w.count)

  pub totals_small : {f : ℕ → ℕ} → Tame f → total (molecule_of d k) f < 2 ^ 40
  totals_small t = small one_molecule atoms_few t

  -- and its largest distance is no more than it has atoms
  pub largest_small : largest (molecule_of d k) < 2 ^ 32
  largest_small =
      let m = one_molecule in
      let g = molecule_of d k in
      omega (arith, largest_is m, most_below g.atoms (farthest g) g.atoms (λ i w. omega (arith, farthest_below m w)), atoms_few)
