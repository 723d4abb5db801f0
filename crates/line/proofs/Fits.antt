-- No line is longer than the longest.
use Prim.Native.Nat.{ℕ, ◌≤◌}
use mathlib.Core.List.{List}
use lib.Dec.{lit≤}
use native.Mathlib.Omega.{arith}
use lib.ListN.{length, length-append}
use Rattle.reply.specs.declared.Refusal.{Refusal}
use Rattle.block.specs.declared.Indices.{Indices}
use Rattle.deck.specs.declared.Form.{Form}
use Rattle.deck.specs.declared.Form.TheVariants.{Composed, Judged}
use Rattle.compose.specs.Fields.{fields_reply}
use Rattle.judging.specs.Judging.{judge_reply, said_verdict}
use Rattle.judging.specs.declared.Verdict.{Verdict}
use Rattle.judging.specs.declared.Verdict.TheVariants as verdict
use Rattle.line.specs.Text.{longest, indices_text, refusal_text, measured_text, differs_text, verdict_text, deck_text}
use Rattle.line.proofs.Decimal.{digits_most}
use Rattle.reply.specs.Read.{as_result}
use Rattle.std.specs.Prelude.{Result, Ok, Err}

pub indices_fit : (x : Indices) → length (indices_text x) ≤ longest
unfolding indices_text
indices_fit x = simp length-append (omega (arith, digits_most x.atoms, digits_most x.w, digits_most x.even, digits_most x.odd, digits_most x.polarity))

pub refusal_fit : (r : Refusal) → length (refusal_text r) ≤ longest
unfolding refusal_text
refusal_fit r = simp length-append (omega (arith, digits_most r.number, digits_most r.place))

pub measured_fit : (m : Result Indices Refusal) → length (measured_text m) ≤ longest
measured_fit (Ok x) = indices_fit x
measured_fit (Err r) = refusal_fit r

pub differs_fit : (field : ℕ) → length (differs_text field) ≤ longest
unfolding differs_text
differs_fit field = simp length-append (omega (arith, digits_most field))

pub verdict_fit : (v : Verdict) → length (verdict_text v) ≤ longest
verdict_fit verdict.Accepted = lit≤ tt
verdict_fit (verdict.Differs field) = differs_fit field
verdict_fit (verdict.Refused r) = refusal_fit r

pub deck_fit : (form : Form) (d : List ℕ) → length (deck_text form d) ≤ longest
deck_fit Composed d = measured_fit (as_result (fields_reply Composed d))
deck_fit Judged d = verdict_fit (said_verdict (judge_reply d))
