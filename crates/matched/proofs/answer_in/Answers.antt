use Prim.Native.Nat.{ℕ, ◌*◌, ◌≤◌}
use mathlib.Core.List.{List}
use mathlib.Core.Path.{◌≡◌, sym, ◌∙◌, ap}
use native.Mathlib.Omega.{arith}
use lib.ListN.{length, take}
use lib.Seq.{length-take-le}
use Rattle.std.specs.Prelude.{Ok}
use Rattle.graph.specs.Graph.{Graph}
use Rattle.reply.specs.Read.{Read, read}
use Rattle.reply.specs.declared.Counts.{Counts}
use Rattle.block.specs.Block.{graph_of, counts_of, said_molecule}
use Rattle.deck.specs.Molecule.{molecule_of}
use Rattle.deck.specs.Sound.{whole}
use Rattle.deck.specs.Sized.{atoms_few}
use Rattle.deck.specs.declared.Form.TheVariants.{Composed}
use Rattle.deck.specs.Placed.{deck_of}
use Rattle.matched.specs.Matched.{partners, match_place, answer_at}
use Rattle.whole.specs.Whole.{whole_reply, numbers_after}
use Rattle.whole.specs.Work.{most_numbers}
use Rattle.whole.specs.Replies.{molecule_few}
use Rattle.matched.specs.Replies.{whole_told, counted, after-length, read_back, answer_other, answer_same}
use Rattle.matched.proofs.answer_in.Goals as goal
use Rattle.matched.proofs.answer_in.Goals.{After-bonds, In_ok-c}

-- `matched::answer_in` meets its contract. A deck that was read is written out, so the arm for a refusal is not reached. Assumes nothing.
-- what was written out, and its counts
written : (c : After-bonds) → let a = c.args in whole_reply a.d.now (length a.numbers.now) ≡ read (molecule_of a.d.now (deck_of a.deck))
written c = whole_told c.args.d.now _ (deck_of c.args.deck) c.requires.0 c.requires.2

written-in-In_ok-c : (c : In_ok-c) → let a = c.args in whole_reply a.d.now (length a.numbers.now) ≡ read (molecule_of a.d.now (deck_of a.deck))
written-in-In_ok-c c = whole_told c.args.d.now _ (deck_of c.args.deck) c.requires.0 c.requires.2

counts : (c : In_ok-c) → let a = c.args in c.in_ok-c.c ≡ counts_of (molecule_of a.d.now (deck_of a.deck))
counts c =
    let a = c.args in
    counted c.in_ok-c.c c.bonds.result (molecule_of a.d.now (deck_of a.deck)) c.in_ok-c.was (c.bonds.ensures.reply ∙ ap said_molecule (written-in-In_ok-c c))

few : (c : In_ok-c) → 2 * c.in_ok-c.c.bonds ≤ most_numbers
few c =
    omega (arith, ap (λ (x : Counts). x.bonds) (counts c), molecule_few c.args.d.now 0 (deck_of c.args.deck) c.requires.0)

room : (c : In_ok-c) → 2 * c.in_ok-c.c.bonds ≤ length c.bonds.new.out
room c =
    let a = c.args in
    let b = c.bonds in
    omega (arith, few c, ap length b.ensures.numbers ∙ after-length (whole_reply a.d.now (length a.numbers.now)) a.numbers.now, c.requires.2)

pub returns-then-c-n : goal.returns-then-c-n
returns-then-c-n c =
    let a = c.args in
    ap Ok (answer_other (graph_of a.n a.bonds.now) (molecule_of a.d.now (deck_of a.deck)) (partners a.d.now (deck_of a.deck) a.matching.now a.n)
    (λ e. omega (arith, c.if-c-n.true, e, ap (λ (x : Counts). x.atoms) (counts (goal.at.returns-then-c-n c).In_ok-c))))

pub overflow_mul-end : goal.overflow_mul-end
overflow_mul-end c = omega (arith, few (goal.at.overflow_mul-end c).In_ok-c)

pub slice_bounds-answer_placed-end : goal.slice_bounds-answer_placed-end
slice_bounds-answer_placed-end c = room (goal.at.slice_bounds-answer_placed-end c).In_ok-c

pub slice_bounds-answer_placed-end-2 : goal.slice_bounds-answer_placed-end-2
slice_bounds-answer_placed-end-2 c = sym (length-take-le _ _ (room (goal.at.slice_bounds-answer_placed-end-2 c).In_ok-c))

pub answer_placed-requires : goal.answer_placed-requires
answer_placed-requires c =
    let a = c.args in
    let n : a.n ≤ 2048 = omega (arith, c.if-c-n.false, ap (λ (x : Counts). x.atoms) (counts (goal.at.answer_placed-requires c).In_ok-c), atoms_few Composed a.d.now (deck_of a.deck) c.requires.0) in (
      whole Composed a.d.now (deck_of a.deck) c.requires.0,
      n,
      omega (arith, n, c.requires.3),
      c.requires.1,
      omega (arith, length-take-le (2 * c.in_ok-c.c.bonds) c.bonds.new.out (room (goal.at.answer_placed-requires c).In_ok-c), few (goal.at.answer_placed-requires c).In_ok-c),
    )

pub returns-in_err-c : goal.returns-in_err-c
returns-in_err-c c =
    let e = c.bonds.ensures.reply ∙ ap said_molecule (written (goal.at.returns-in_err-c c).After-bonds) in
    let f = c.in_err-c.was in
    let z : ◌≡◌ {A = ℕ} 0 1 = cc in
    absurd (omega arith)

pub returns : goal.returns
returns c =
    let a = c.args in
    let x = counts (goal.at.returns c).In_ok-c in
    let to = partners a.d.now (deck_of a.deck) a.matching.now a.n in
    let n : a.n ≡ (molecule_of a.d.now (deck_of a.deck)).atoms = omega (arith, c.if-c-n.false, ap (λ (x : Counts). x.atoms) x) in
    let m : 2 * c.in_ok-c.c.bonds ≡ 2 * length (molecule_of a.d.now (deck_of a.deck)).bonds = ap (λ (x : Counts). 2 * x.bonds) x in
    let out : c.bonds.new.out ≡ numbers_after (read (molecule_of a.d.now (deck_of a.deck))) a.numbers.now = c.bonds.ensures.numbers ∙ ap (λ (x : Read Graph). numbers_after x a.numbers.now) (written (goal.at.returns c).After-bonds) in
    let h : graph_of a.n (take (2 * c.in_ok-c.c.bonds) c.bonds.new.out) ≡ (molecule_of a.d.now (deck_of a.deck))
    = ap (λ (l : List ℕ). graph_of a.n (take (2 * c.in_ok-c.c.bonds) l)) out
    ∙ read_back (molecule_of a.d.now (deck_of a.deck)) a.n (2 * c.in_ok-c.c.bonds) a.numbers.now n m (omega (arith, few (goal.at.returns c).In_ok-c, c.requires.2)) in
    ap Ok (c.answer_placed.ensures
    ∙ ap (λ (h : Graph). answer_at (match_place (graph_of a.n a.bonds.now) h to)) h
    ∙ answer_same (graph_of a.n a.bonds.now) (molecule_of a.d.now (deck_of a.deck)) to n)
