use Prim.Native.Nat.{ℕ}
use mathlib.Core.List.{List}
use mathlib.Core.Path.{◌≡◌, sym, ◌∙◌}
use Rattle.reply.specs.Read.{refused}
use Rattle.reply.specs.declared.Refusal.{Refusal}
use Rattle.deck.specs.Deck.{deck_reply}
use Rattle.deck.specs.declared.Form.TheVariants.{Composed, Judged}
use Rattle.deck.proofs.Parts.{deck_stopped, held, in_composed, in_judged, in_neither, part_at}
use Rattle.compose.proofs.reading.block_part.Goals as goal
use Rattle.compose.proofs.reading.block_part.Goals.{In_default, Start}

-- `compose::reading::block_part` meets its contract. Assumes nothing.
abbrev deck : Start → List ℕ
deck s = s.args.d.now

abbrev deck-in-In_default : In_default → List ℕ
deck-in-In_default s = s.args.d.now

not-composed : (c : In_default) → (q : Refusal) × (deck_reply Composed (deck-in-In_default c) ≡ refused q)
not-composed c =
    let r = c.read_deck-k in
    (c.in_default.field-0, deck_stopped (deck_reply Composed (deck-in-In_default c)) r.result c.in_default.field-0 r.ensures c.in_default.is)

pub returns-in_default-judged : goal.returns-in_default-judged
returns-in_default-judged c = let (p, e) = not-composed (goal.at.returns-in_default-judged c).In_default in
    let r = c.read_deck-j in
    part_at (sym (in_neither (deck (goal.at.returns-in_default-judged c).Start) c.args.number p c.in_default-judged.field-0 e (deck_stopped (deck_reply Judged (deck (goal.at.returns-in_default-judged c).Start)) r.result c.in_default-judged.field-0 r.ensures c.in_default-judged.is))) c.part.ensures

pub returns-in_default : goal.returns-in_default
returns-in_default c = let (p, e) = not-composed (goal.at.returns-in_default c).In_default in
    let r = c.read_deck-j in
    let (k, f, g) = held (deck (goal.at.returns-in_default c).Start) c.args.number Judged r.result r.ensures c.in-Ok-judged.is in
    part_at (g ∙ sym (in_judged (deck (goal.at.returns-in_default c).Start) c.args.number p k e f)) c.payload_of.ensures

pub returns : goal.returns
returns c = let r = c.read_deck-k in
    let (k, f, g) = held (deck (goal.at.returns c).Start) c.args.number Composed r.result r.ensures c.in-Ok.is in
    part_at (g ∙ sym (in_composed (deck (goal.at.returns c).Start) c.args.number k f)) c.payload_of-2.ensures
