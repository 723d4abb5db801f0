-- Worked examples, computed from the definitions.
use mathlib.Core.Path.{◌≡◌, refl}
use Rattle.reply.specs.Read.{refusal}
use Rattle.judging.specs.declared.Verdict.TheVariants as verdict
use Rattle.text.specs.Text.{ascii, decimal_in, decimal}
use Rattle.line.specs.Text.{indices_text, refusal_text, measured_text, differs_text, verdict_text, unread_text}
use Rattle.line.specs.Label.{has_room, labelled}
use Rattle.std.specs.Prelude.{Ok, Err}

-- document 01's lines
two_rings : measured_text (Ok (record { atoms = 12; w = 198; even = 96; odd = 102; polarity = 14; largest = 7 })) ≡ ascii "atoms 12 W 198 even 96 odd 102 polarity 14\n"
unfolding indices_text decimal decimal_in
two_rings = refl

a_refusal : measured_text (Err (refusal 7 0)) ≡ ascii "refused 7 at 0\n"
unfolding refusal_text decimal decimal_in
a_refusal = refl

a_verdict : verdict_text (verdict.Differs 3) ≡ ascii "differs 3\n"
unfolding differs_text decimal decimal_in
a_verdict = refl

-- the largest number
largest : decimal 18446744073709551615 ≡ ascii "18446744073709551615"
unfolding decimal decimal_in
largest = refl

-- a file's line stands behind its name, and what follows stays; one that does not fit changes nothing
labelled_file : labelled (ascii "a.deck...................") 6 unread_text ≡ ascii "a.deck: cannot be read\n.."
unfolding has_room
labelled_file = refl

no_room : labelled (ascii "a.deck...") 6 unread_text ≡ ascii "a.deck..."
unfolding has_room
no_room = refl
