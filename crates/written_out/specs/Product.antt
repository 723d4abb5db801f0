-- Laws. THE SHEET OF A PRODUCT, of either kind, is byte for byte what writing gives for the deck with the product's assembly written out, and is accepted behind
-- that deck. Assumes nothing.
use Rattle.std.specs.Prelude.{ℕ, ◌<◌, ◌≤◌, Bool, true, false, List, ◌++◌, ◌≡◌, refl, ltb, length, take}
use Rattle.std.proofs.Common.{sym, ◌∙◌, ap, arith}
use borrow.Author.Tests.{le-ltb, lt-ltb, ltb-true, ltb-false}
use Rattle.graph.specs.Graph.{Graph}
use Rattle.reply.specs.Read.{refused, read, refusal}
use Rattle.block.specs.Index.{indices_of}
use Rattle.records.specs.declared.Sheet.{Sheet}
use Rattle.deck.specs.Deck.{longest_deck}
use Rattle.deck.specs.Sized.{composed_short}
use Rattle.deck.specs.declared.Form.TheVariants.{Composed}
use Rattle.sheets.specs.Sheets.{sheet_bytes}
use Rattle.compose.specs.Fields.{fields_reply}
use Rattle.judging.specs.Judging.{judge_reply, said_verdict, sheet_write_reply, said_sheet_written, sheet_out}
use Rattle.judging.specs.Theorems.{written_accepted}
use Rattle.judging.specs.declared.Verdict.TheVariants as verdict
use Rattle.catalogue.specs.Library.{Library, library_reply}
use Rattle.catalogue.specs.Products.{products, product_at}
use Rattle.catalogue.proofs.Sound.{whole}
use Rattle.catalogue.specs.Written.{product_deck}
use Rattle.catalogue.proofs.Written.{product_deck_lem}
use Rattle.library.specs.Steps.{step_reply, step_out}
use Rattle.library.specs.Running.{step_short, made_step}

module _ (s : Sheet) (d : List ℕ) (l : Library) (e : library_reply d ≡ read l) (position : ℕ) (h : position < products l.sites) where
  short : length (product_deck d l position) ≤ longest_deck
  short = let m = product_deck_lem d l position e h in omega (arith, composed_short (product_deck d l position) m.deck m.reads)

  -- composing gives the product's fields for that deck
  pub product_fields : fields_reply Composed (product_deck d l position) ≡ read (product_at d l position)
  unfolding fields_reply product_at
  product_fields = let m = product_deck_lem d l position e h in rw m.reads (ap (λ (g : Graph). read (indices_of g)) m.molecule)

  -- and so does writing
  pub product_writes : (n : ℕ) → sheet_bytes s ≤ n → sheet_write_reply s (product_deck d l position) n ≡ read (product_at d l position)
  unfolding sheet_write_reply
  product_writes n r = rw (le-ltb longest_deck (length (product_deck d l position)) short, le-ltb n (sheet_bytes s) r) product_fields

  product_lacks : (n : ℕ) → n < sheet_bytes s → sheet_write_reply s (product_deck d l position) n ≡ refused (refusal 9 0)
  unfolding sheet_write_reply
  product_lacks n r = rw (le-ltb longest_deck (length (product_deck d l position)) short, lt-ltb n (sheet_bytes s) r)

  -- THE SAME BYTES, whatever is lent: a step leaves what writing leaves for the deck written out
  pub product_sheet : (out : List ℕ) → step_out s out (step_reply s d position (length out)) ≡ sheet_out s out (sheet_write_reply s (product_deck d l position) (length out))
  product_sheet out = go (ltb (length out) (sheet_bytes s)) refl
    where
      go : (t : Bool) → ltb (length out) (sheet_bytes s) ≡ t → step_out s out (step_reply s d position (length out)) ≡ sheet_out s out (sheet_write_reply s (product_deck d l position) (length out))
      go true b =
          let r = ltb-true (length out) (sheet_bytes s) b in
          ap (step_out s out) (step_short s d position (length out) (whole d l e).short r) ∙ sym (ap (sheet_out s out) (product_lacks (length out) r))
      go false b =
          let r = ltb-false (length out) (sheet_bytes s) b in
          ap (step_out s out) (made_step s d l e position (length out) h r) ∙ sym (ap (sheet_out s out) (product_writes (length out) r))

  -- AND IT IS ACCEPTED behind that deck
  pub product_accepted : (out : List ℕ) → sheet_bytes s ≤ length out
      → said_verdict (judge_reply ((product_deck d l position) ++ take (sheet_bytes s) (step_out s out (step_reply s d position (length out))))) ≡ verdict.Accepted
  product_accepted out r = rw (product_sheet out) (written_accepted s (product_deck d l position) out (ap said_sheet_written (product_writes (length out) r)))
