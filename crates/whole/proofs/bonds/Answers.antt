use Prim.Native.Nat.{ℕ}
use mathlib.Core.Path.{◌≡◌, sym, ◌∙◌, ap, ap₂}
use native.Mathlib.Omega.{arith}
use mathlib.Core.List.{List}
use lib.ListN.{length}
use lib.Seq.{sets}
use Rattle.std.specs.Prelude.{Ok, Err}
use Rattle.std.proofs.lemmas.Result.{err_from_is_err_and}
use Rattle.graph.specs.Graph.{Bond, Graph}
use Rattle.reply.specs.Read.{Read, read}
use Rattle.block.specs.Block.{said_molecule}
use Rattle.deck.specs.Deck.{deck_reply}
use Rattle.deck.specs.Sound.{whole}
use Rattle.deck.specs.declared.Form.TheVariants.{Composed}
use Rattle.deck.proofs.Parts.{deck_stopped}
use Rattle.deck.specs.Placed.{deck_of}
use Rattle.deck.proofs.Reading.{deck-read}
use Rattle.whole.specs.Whole.{pair_numbers, numbers_after}
use Rattle.whole.specs.Replies.{whole_refused, molecule_bonds, molecule_atoms, whole_short, whole_read}
use Rattle.whole.proofs.bonds.Goals as goal
use Rattle.whole.proofs.bonds.Goals.{In_ok-read}

-- `whole::bonds` meets its contract: the deck's refusals, then 9, else the bonds placement by placement.
-- the deck that was read
fine : (c : In_ok-read) → deck_reply Composed c.args.d.now ≡ read (deck_of c.read_deck-read.result.layout)
fine c = deck-read (deck_reply Composed c.args.d.now) c.read_deck-read.result c.read_deck-read.ensures c.in_ok-read.was

pub bond_count-m-requires : goal.bond_count-m-requires
bond_count-m-requires c = whole Composed _ _ (fine (goal.at.bond_count-m-requires c).In_ok-read)

pub returns-then-out-m : goal.returns-then-out-m
unfolding numbers_after
returns-then-out-m c =
    let a = c.args in
    let h = whole_short a.d.now (length a.out.now) _ (fine (goal.at.returns-then-out-m c).In_ok-read) (omega (arith, c.if-out-m.true, c.bond_count-m.ensures.0)) in
    record { reply = ap Err c.at.ensures ∙ sym (ap said_molecule h); numbers = sym (ap (λ (x : Read Graph). numbers_after x a.out.now) h) }

pub overflow_cast-deck : goal.overflow_cast-deck
overflow_cast-deck c = omega (arith, (whole Composed _ _ (fine (goal.at.overflow_cast-deck c).In_ok-read)).count.high)

pub put_all-requires : goal.put_all-requires
put_all-requires c = whole Composed _ _ (fine (goal.at.put_all-requires c).In_ok-read)

pub returns-in_err-read : goal.returns-in_err-read
unfolding numbers_after
returns-in_err-read c =
    let a = c.args in
    let r = c.read_deck-read in
    let h = whole_refused a.d.now (length a.out.now) (deck_stopped (deck_reply Composed a.d.now) r.result _ r.ensures c.in_err-read.was) in
    let p = err_from_is_err_and c.from_residual.result c.from_residual.ensures.1 in
    record { reply = p.1 ∙ ap Err p.2 ∙ sym (ap said_molecule h); numbers = sym (ap (λ (x : Read Graph). numbers_after x a.out.now) h) }

pub returns : goal.returns
unfolding numbers_after
returns c =
    let a = c.args in
    let b = c.bond_count-m in
    let e = fine (goal.at.returns c).In_ok-read in
    let h = whole_read a.d.now (length a.out.now) _ e (omega (arith, c.if-out-m.false, b.ensures.0)) in
    let x = molecule_bonds a.d.now (length a.out.now) _ e in
    let y = molecule_atoms a.d.now (length a.out.now) _ e in record { reply = ap₂ (λ (n m : ℕ). Ok (record { atoms = n; bonds = m })) (c.start_of-atoms.ensures.0 ∙ sym y) (b.ensures.0 ∙ sym (ap length x)) ∙ sym (ap said_molecule h); numbers = c.put_all.ensures ∙ ap (λ (l : List Bond). sets a.out.now 0 (pair_numbers l)) (sym x) ∙ sym (ap (λ (x : Read Graph). numbers_after x a.out.now) h) }
