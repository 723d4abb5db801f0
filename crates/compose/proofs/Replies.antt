-- From a deck whose blocks are read to its reply, by what composing over its book says. Assumes nothing.
use Prim.Native.Nat.{ℕ, ◌-◌}
use mathlib.Core.List.{List}
use mathlib.Core.Path.{◌≡◌, refl, sym, ◌∙◌, ap}
use Rattle.graph.specs.Assembly.{written}
use Rattle.reply.specs.Read.{Read, refused, read, refusal, ◌then◌, as_result, as_read}
use Rattle.reply.specs.Chain.{made_refused, made_read, read_back}
use Rattle.reply.specs.declared.Refusal.{Refusal}
use Rattle.block.specs.Index.{indices_of}
use Rattle.block.specs.declared.Indices.{Indices}
use Rattle.records.specs.Records.{payload_at, assembly_kind}
use Rattle.assembly.specs.Book.{Book, book_of}
use Rattle.assembly.specs.Placements.{placement_count, placement_at, graph_on, join_on, assembly_reply}
use Rattle.deck.specs.Deck.{Deck, placement_place, open_reply, assembly_reply_at, sheet_reply, deck_reply}
use Rattle.deck.specs.Kept.{kept, open_read}
use Rattle.deck.specs.Molecule.{placed_in, graph_at, join_at, molecule_of}
use Rattle.deck.specs.declared.Form.{Form}
use Rattle.deck.proofs.Parts.{bad_assembly, bad_sheet, whole_deck}
use Rattle.summaries.specs.Composing.{composed_reply}
use Rattle.summaries.specs.Written.{HonestBook, written_reply, composed_written}
use Rattle.compose.specs.Fields.{compose_reply, behind_reply}
use Rattle.std.specs.Prelude.{Result, Ok, Err}

pub fields_refused : (form : Form) (d : List ℕ) (r : Refusal) → deck_reply form d ≡ refused r → Err r ≡ as_result (compose_reply form d)
unfolding compose_reply
fields_refused form d r e = rw e

fields_fine : (form : Form) (d : List ℕ) (k : Deck) (x : Indices) → deck_reply form d ≡ read k → x ≡ indices_of (molecule_of d k)
    → Ok (record { fields = x; sheet = k.sheet }) ≡ as_result (compose_reply form d)
unfolding compose_reply
fields_fine form d k x e q = rw (e, q)

-- what the code's reply says of an assembly over a book
abbrev whole : Book → List ℕ → Indices
whole book xs = indices_of (written (graph_on book (placement_at xs)) (join_on (placement_at xs)) (placement_count xs - 1))

-- a deck whose blocks are read
module _ (form : Form) (d : List ℕ) (k : Deck) (e : open_reply assembly_kind d ≡ read k) where
  molecule_is : whole (book_of d k.blocks) (payload_at d k.assembly) ≡ indices_of (molecule_of d k)
  unfolding molecule_of graph_at join_at placed_in
  molecule_is =
      let b = book_of d k.blocks in
      let xs = payload_at d k.assembly in
      ap (λ (n : ℕ). indices_of (written (graph_on b (placement_at xs)) (join_on (placement_at xs)) (n - 1))) (sym (ap (λ (x : Deck). x.placements) (kept assembly_kind d (open_read assembly_kind d e).1).places))

  module _ (b xs : List ℕ) (h : HonestBook b (book_of d k.blocks)) (p : xs ≡ payload_at d k.assembly) (answer : Result Indices Refusal) (q : answer ≡ as_result (composed_reply b xs)) where
    told : as_read answer ≡ (assembly_reply (book_of d k.blocks) (payload_at d k.assembly) then λ _. read (whole (book_of d k.blocks) (payload_at d k.assembly)))
    unfolding written_reply
    told = read_back answer _ (q ∙ ap as_result (composed_written b (book_of d k.blocks) xs h ∙ ap (written_reply (book_of d k.blocks)) p))

    pub is_refused : (r : Refusal) → answer ≡ Err r → assembly_reply (book_of d k.blocks) (payload_at d k.assembly) ≡ refused r
    is_refused r f = made_refused _ _ (sym told ∙ ap as_read f)

    pub placed_badly : (r : Refusal) → answer ≡ Err r → as_result (refused (refusal r.number (placement_place k.assembly r))) ≡ as_result (compose_reply form d)
    unfolding assembly_reply_at
    placed_badly r f = fields_refused form d _ (bad_assembly form d k e _ (rw (is_refused r f)))

    pub placed_well : (x : Indices) → answer ≡ Ok x → as_result (behind_reply form d x k.sheet) ≡ as_result (compose_reply form d)
    unfolding assembly_reply_at behind_reply
    placed_well x f =
        let (u, fine, same) = made_read (assembly_reply (book_of d k.blocks) (payload_at d k.assembly)) _ (sym told ∙ ap as_read f) in
        let a : assembly_reply_at d k.blocks k.assembly ≡ read tt = rw fine refl in
        go a (sym same ∙ molecule_is) (sheet_reply form d k.sheet) refl
      where
        go : assembly_reply_at d k.blocks k.assembly ≡ read tt → x ≡ indices_of (molecule_of d k) → (s : Read (Unit {0})) → sheet_reply form d k.sheet ≡ s
            → as_result (s then λ _. read (record { fields = x; sheet = k.sheet })) ≡ as_result (compose_reply form d)
        go a m (refused r) g = fields_refused form d r (bad_sheet form d k e a r g)
        go a m (read u) g = fields_fine form d k x (whole_deck form d k e a g) m
