-- Laws. THE HEADLINE in the number that C is told: `tteuyomal_judge` replies 0 if and only if the deck is not refused and the fields that its sheet has are those of
-- the molecule written out. Assumes nothing.
use Rattle.std.specs.Prelude.{ℕ, List, ◌↔◌, ◌≡◌}
use Rattle.std.proofs.Common.{ap}
use Rattle.reply.specs.Read.{read}
use Rattle.reply.specs.Chain.{then-read}
use Rattle.records.specs.Records.{sheet_at}
use Rattle.deck.specs.Deck.{Deck, deck_reply}
use Rattle.deck.specs.Molecule.{molecule_of}
use Rattle.deck.specs.declared.Form.TheVariants.{Judged}
use Rattle.sheets.specs.Sheets.{sheet_of, claimed_at, first_wrong}
use Rattle.judging.specs.Judging.{judge_reply, said_verdict}
use Rattle.judging.specs.Headline.{accepted_exactly}
use Rattle.deck_calls.specs.Replies.{verdict_code}
use Rattle.told.specs.Recovered.{judge_tells}

pub zero_exactly : (d : List ℕ)
    → (verdict_code (said_verdict (judge_reply d)) ≡ 0) ↔ ((k : Deck) × (deck_reply Judged d ≡ read k) × (claimed_at d k.sheet ≡ sheet_of (sheet_at d k.sheet) (molecule_of d k)))
unfolding judge_reply
zero_exactly d = (
  λ z.
      let a = (judge_tells d).accepted z in
      let (k, e, f) = judged a in
      (k, e, (accepted_exactly d k e).0 (ap said_verdict a)),
  λ (k, e, q). ap verdict_code ((accepted_exactly d k e).1 q),
)
  where
    judged : judge_reply d ≡ read 0 → (k : Deck) × (deck_reply Judged d ≡ read k) × (read (first_wrong 1 (sheet_of (sheet_at d k.sheet) (molecule_of d k)) (claimed_at d k.sheet)) ≡ read 0)
    judged = then-read (deck_reply Judged d) (λ k. read (first_wrong 1 (sheet_of (sheet_at d k.sheet) (molecule_of d k)) (claimed_at d k.sheet)))
