-- Laws. The promises of `measure` and `measure_neighbours` determine the reply. Assumes nothing.
use Rattle.std.specs.Prelude.{ℕ, List, ◌≡◌, Result}
use Rattle.std.proofs.Common.{sym, ◌∙◌}
use Rattle.measuring.specs.Measuring.{measure_reply}
use Rattle.measuring.specs.Texts.{measured_text_reply}
use Rattle.reply.specs.Read.{as_result}
use Rattle.reply.specs.declared.Refusal.{Refusal}
use Rattle.block.specs.declared.Indices.{Indices}

pub unique-measure : (d : List ℕ) (r s : Result Indices Refusal) → r ≡ as_result (measure_reply d) → s ≡ as_result (measure_reply d) → r ≡ s
unique-measure d r s p q = p ∙ sym q

pub unique-measure_neighbours : (t : List ℕ) (r s : Result Indices Refusal) → r ≡ as_result (measured_text_reply t) → s ≡ as_result (measured_text_reply t) → r ≡ s
unique-measure_neighbours t r s p q = p ∙ sym q
