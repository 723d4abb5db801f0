-- Laws. A deck that composes, with a sheet behind it, is read in the form that is judged, and describes the same molecule. Assumes nothing.
use Prim.Native.Nat.{ℕ, zero, suc, ◌+◌, ◌*◌, ◌-◌, ◌≤◌}
use Rattle.std.specs.Prelude.{Bool, ◌||◌, cond, ◌≡◌, eqb}
use Rattle.std.proofs.Math.Bool.{true, false}
use mathlib.Core.List.{List, [], ◌∷◌, ◌++◌}
use Rattle.std.proofs.Math.Logic.{⊎_elim}
use Rattle.std.proofs.Math.Path.{refl, ap, ap₂}
use Rattle.std.proofs.Common.{sym, ◌∙◌}
use native.Mathlib.Omega.{arith}
use borrow.Author.Tests.{eqb-true, le-ltb, ltb-false}
use Rattle.std.proofs.Math.Dec.{leb}
use Rattle.std.proofs.Math.ListN.{length, length-append}
use Rattle.graph.specs.Graph.{Graph}
use Rattle.graph.specs.Assembly.{Join, written}
use Rattle.reply.specs.Read.{read, ◌then◌, refuse_if}
use Rattle.reply.specs.Chain.{not_read, then-read, if_read}
use Rattle.block.specs.Block.{graph_of, block_reply}
use Rattle.records.specs.Bytes.{le16}
use Rattle.records.specs.Records.{head_bytes, block_kind, assembly_kind, sheet_kind, length_at, kind_at, sheet_at, end_at, payload_at, length_reply, record_reply}
use Rattle.records.specs.Taken.{taken, sheet_stands, sheet_suits, sheet_told}
use Rattle.records.specs.Longer.{Counted, little_same, little_behind, part_same, kind_same, end_same, payload_same, record_same}
use Rattle.records.specs.declared.Kind.{Kind}
use Rattle.records.specs.declared.Sheet.{Sheet}
use Rattle.assembly.specs.Book.{Book, find, used, bond_bytes, book_of, most_blocks}
use Rattle.assembly.specs.Placements.{placement_at, join_on, graph_on, assembly_reply}
use Rattle.assembly.specs.declared.BlockAt.{BlockAt}
use Rattle.deck.specs.Deck.{longest_deck, kinds_after, Deck, block_at, moved, block_place, block_reply_at, assembly_reply_at, blocks_from, blocks_reply, end_reply, sheet_reply, deck_reply}
use Rattle.deck.specs.Kept.{Each, Standing, kept, chosen, fit, stands}
use Rattle.deck.specs.Sound.{parts}
use Rattle.deck.specs.Molecule.{placed_in, graph_at, join_at, molecule_of}
use Rattle.deck.specs.declared.Form.TheVariants.{Composed, Judged}

module _ (d s : List ℕ) where
  -- a block that stands in the deck
  pub bonds_same : (b : BlockAt) → b.start + block_kind.fixed + block_kind.item * b.bonds ≤ length d → bond_bytes (d ++ s) b ≡ bond_bytes d b
  bonds_same b h = part_same d s (b.start + block_kind.fixed) (block_kind.item * b.bonds) h

  pub block_same : (at : ℕ) → at + head_bytes + block_kind.fixed ≤ length d → block_at (d ++ s) at ≡ block_at d at
  block_same at h =
      let start = at + head_bytes in
      rw (little_same d s 2 start (omega arith), little_same d s 2 (start + 2) (omega arith), little_same d s 2 (start + block_kind.count) (omega arith))

  pub reply_same : (at : ℕ) (done : List BlockAt) → Standing d (block_at d at) → block_reply_at (d ++ s) at done ≡ block_reply_at d at done
  unfolding block_reply_at
  reply_same at done t =
      let e = block_same at (omega (arith, t.within)) in
      ap₂ (λ (b : BlockAt) (xs : List ℕ). refuse_if (eqb b.number 0 || used done b.number || leb most_blocks (length done)) 14 at then λ _. moved (block_place at) (block_reply b.atoms xs)) e
      (ap (bond_bytes (d ++ s)) e ∙ bonds_same (block_at d at) t.within)

  counted : (done : List BlockAt) (last : Kind) → Counted (last ∷ []) → Counted (kinds_after done last)
  unfolding Counted
  counted [] last c = (omega arith, tt)
  counted (b ∷ bs) last c = (omega arith, c)

  module _ (last : Kind) (c : Counted (last ∷ [])) where
    from_same : (fuel at : ℕ) (done : List BlockAt) {k : Deck} → blocks_from fuel last d at done ≡ read k → blocks_from fuel last (d ++ s) at done ≡ read k
    unfolding blocks_from
    from_same zero at done e = absurd (not_read e)
    from_same (suc fuel) at done {k} e =
        let (u, p, f) = then-read (record_reply (kinds_after done last) d at) _ e in
        let w = (taken d at (kinds_after done last) p).whole in
        let q = record_same d s (kinds_after done last) at (counted done last c) p in
        ⊎_elim
        (λ t.
        let (v, g, h) = then-read (block_reply_at d at done) _ t.1 in
        let r = stands last d at done p (eqb-true _ _ t.0) (fit d at done g) in
        rw (q, kind_same d s at w, t.0, reply_same at done r ∙ g, end_same d s at w, block_same at (omega (arith, r.within))) (from_same fuel (end_at d at) (done ++ block_at d at ∷ []) h))
        (λ t. rw (q, kind_same d s at w, t.0, payload_same d s at w, end_same d s at w) t.1)
        (chosen (eqb (kind_at d at) block_kind.number) _ _ f)

  found_same : (bs : List BlockAt) (x : ℕ) → Each (Standing d) bs → bond_bytes (d ++ s) (find bs x) ≡ bond_bytes d (find bs x)
  unfolding Each find
  found_same [] x t = refl
  found_same (b ∷ bs) x t = go (eqb b.number x) (found_same bs x t.1)
    where
      go : (u : Bool) → bond_bytes (d ++ s) (find bs x) ≡ bond_bytes d (find bs x) → bond_bytes (d ++ s) (cond u b (find bs x)) ≡ bond_bytes d (cond u b (find bs x))
      go true more = bonds_same b t.0.within
      go false more = more

  pub book_same : (bs : List BlockAt) → Each (Standing d) bs → book_of (d ++ s) bs ≡ book_of d bs
  unfolding book_of
  book_same bs t = λ i. record { has = used bs; graph = λ x. graph_of (find bs x).atoms (found_same bs x t i) }

-- the record of a sheet of a kind
pub record IsSheet (sheet : Sheet) (s : List ℕ) : Type 0 where
  pub size : length s ≡ head_bytes + (sheet_kind sheet).fixed
  pub payload : le16 s 0 ≡ (sheet_kind sheet).fixed
  pub kind : le16 s 2 ≡ (sheet_kind sheet).number

module _ {sheet : Sheet} (d s : List ℕ) (i : IsSheet sheet s) where
  kind_behind : kind_at (d ++ s) (length d) ≡ (sheet_kind sheet).number
  kind_behind = little_behind d s 2 2 ∙ i.kind

  -- behind a deck it is told by its kind, and taken
  pub told_behind : sheet_at (d ++ s) (length d) ≡ sheet
  told_behind = sheet_told (d ++ s) (length d) sheet kind_behind

  sheet_behind : sheet_reply Judged (d ++ s) (length d) ≡ read tt
  unfolding sheet_reply record_reply length_reply end_reply
  sheet_behind =
      let z : length d + 0 ≡ length d = omega arith in
      let n : length_at (d ++ s) (length d) ≡ (sheet_kind sheet).fixed = ap (le16 (d ++ s)) (sym z) ∙ little_behind d s 2 0 ∙ i.payload in
      let l : length (d ++ s) ≡ end_at (d ++ s) (length d) = omega (arith, length-append d s, i.size, n) in
      rw (
        le-ltb (length (d ++ s)) (end_at (d ++ s) (length d)) (omega arith),
        sheet_stands (d ++ s) (length d) sheet kind_behind,
        sheet_suits (d ++ s) (length d) sheet n,
        le-ltb (end_at (d ++ s) (length d)) (length (d ++ s)) (omega arith),
      )

module _ (d : List ℕ) (k : Deck) (e : deck_reply Composed d ≡ read k) where
  -- a deck that composes ends with its assembly: there a sheet would stand
  pub ends : k.sheet ≡ length d
  unfolding sheet_reply end_reply
  ends =
      let p = parts Composed d k e in
      let q = kept assembly_kind d p.blocks in
      omega (
        arith,
        ltb-false k.sheet (length d) (if_read _ 11 k.sheet p.sheet),
        (taken d k.assembly (assembly_kind ∷ []) q.after).whole,
        ap (λ (x : Deck). x.sheet) q.places,
      )

  whole : end_at d k.assembly ≤ length d
  whole = (taken d k.assembly (assembly_kind ∷ []) (kept assembly_kind d (parts Composed d k e).blocks).after).whole

  module _ (s : List ℕ) where
    books : book_of (d ++ s) k.blocks ≡ book_of d k.blocks
    books = book_same d s k.blocks (kept assembly_kind d (parts Composed d k e).blocks).blocks

    payloads : payload_at (d ++ s) k.assembly ≡ payload_at d k.assembly
    payloads = payload_same d s k.assembly whole

    -- the molecule is the same with anything behind the deck
    same_graphs : graph_at (d ++ s) k ≡ graph_at d k
    unfolding graph_at placed_in
    same_graphs = ap₂ (λ (b : Book) (xs : List ℕ). graph_on b (placement_at xs)) books payloads

    same_joins : join_at (d ++ s) k ≡ join_at d k
    unfolding join_at placed_in
    same_joins = ap (λ (xs : List ℕ). join_on (placement_at xs)) payloads

    pub same_molecule : molecule_of (d ++ s) k ≡ molecule_of d k
    unfolding molecule_of
    same_molecule = ap₂ (λ (blocks : ℕ → Graph) (joins : ℕ → Join). written blocks joins (k.placements - 1)) same_graphs same_joins

    -- with a sheet behind it, it is read in the form that is judged
    pub followed : {sheet : Sheet} → IsSheet sheet s → length d + length s ≤ longest_deck → deck_reply Judged (d ++ s) ≡ read k
    unfolding deck_reply assembly_reply_at blocks_reply Counted
    followed {sheet} i h =
        let p = parts Composed d k e in
        let b = from_same d s assembly_kind (omega arith, tt) (suc most_blocks) 0 [] p.blocks in
        let a : assembly_reply (book_of (d ++ s) k.blocks) (payload_at (d ++ s) k.assembly) ≡ read tt = ap₂ assembly_reply books payloads ∙ p.assembly in
        let c : sheet_reply Judged (d ++ s) k.sheet ≡ read tt = ap (sheet_reply Judged (d ++ s)) ends ∙ sheet_behind d s i in
        rw (le-ltb longest_deck (length (d ++ s)) (omega (arith, length-append d s)), b, a, c)
