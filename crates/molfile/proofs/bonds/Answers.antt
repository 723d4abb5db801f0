use Prim.Native.Nat.{ℕ, ◌-◌}
use mathlib.Core.Path.{◌≡◌, refl, sym, ap, ◌∙◌}
use lib.ListN.{length-set}
use Rattle.graph.specs.Graph.{Bond, Within}
use Rattle.reply.specs.Read.{read}
use Rattle.reply.specs.Chain.{not_read}
use Rattle.text.specs.Text.{next_line}
use Rattle.text.specs.Laws.{later_more}
use Rattle.molfile.specs.Molfile.{atom_line_place, atom_line_count, bond_line_place, ends_of_line, bond_reply, bond_reply_of}
use Rattle.molfile.specs.Work.{said_walk, numbers_at}
use Rattle.molfile.specs.declared.Numbers.{Numbers}
use Rattle.molfile.proofs.Turns.{numbers-refused, numbers-read, turn_none, turn_more, turn_stops}
use Rattle.molfile.proofs.Lines.{bond_within, bond_is}
use Rattle.molfile.proofs.Filling.{holds_none, holds_more}
use native.Mathlib.Omega.{arith}
use Rattle.molfile.proofs.bonds.Goals as goal
use Rattle.molfile.proofs.bonds.Invariants.{one, two}
use Rattle.molfile.proofs.bonds.Goals.{In_ok-x}
use Rattle.std.specs.Prelude.{Ok}
use Rattle.std.proofs.lemmas.Result.{err_from_is_err_and}

-- the line is there
there : (c : In_ok-x) → let l = c.loop-k in let a = c.args in
    (bond_reply a.n a.d.now l.at ≡ read tt) × (numbers_at a.d.now l.at ≡ c.in_ok-x.x)
there c = let l = c.loop-k in let a = c.args in
    numbers-read a.d.now l.at (bond_reply a.n a.d.now l.at) (sym c.in_ok-x.ensures)

-- its ends are atoms
ends : (c : In_ok-x) → let a = c.args in
    Within a.n c.in_ok-x.x.one × Within a.n c.in_ok-x.x.two
ends c = let l = c.loop-k in let a = c.args in
    let t = there c in
    let w = bond_within a.n a.d.now l.at t.0 in
    let e = ap (λ (x : Numbers). x.one) t.1 in
    let f = ap (λ (x : Numbers). x.two) t.1 in
    (omega arith, omega arith)

-- what the definition says of it
at-line : (c : In_ok-x) → let l = c.loop-k in let a = c.args in
    bond_reply_of a.d.now l.k ≡ read tt
at-line c = let l = c.loop-k in ap (λ (n : ℕ). bond_reply n c.args.d.now (bond_line_place c.args.d.now l.k)) (sym c.requires.1)
    ∙ ap (bond_reply c.args.n c.args.d.now) (sym l.invariant.1)
    ∙ (there c).0

pub loop-k-init : goal.loop-k-init
loop-k-init c =
    let d = c.args.d.now in
    (omega arith, c.requires.0, turn_none (bond_reply_of d), refl, refl, holds_none (one d) c.args.ones.now, holds_none (two d) c.args.twos.now)

pub returns-in_err-x : goal.returns-in_err-x
returns-in_err-x c =
    let l = c.loop-k in
    let a = c.args in
    let d = a.d.now in
    let e = numbers-refused d l.at (bond_reply a.n d l.at) (sym c.in_err-x.ensures) in
    let f = ap (λ (n : ℕ). bond_reply n d (bond_line_place d l.k)) (sym c.requires.1) ∙ ap (bond_reply a.n d) (sym l.invariant.1) ∙ e in
    let t = turn_stops (bond_reply_of d) a.m l.k _ (omega arith) l.invariant.2 f in
    let p = err_from_is_err_and c.from_residual.result c.from_residual.ensures.1 in
    rw (p.1, p.2) (record { reply = sym (ap (said_walk (bond_line_place d a.m)) t); ends = λ z. absurd (not_read (sym t ∙ z)); same_one = l.invariant.3; same_two = l.invariant.4 })

pub overflow_cast-ones : goal.overflow_cast-ones
overflow_cast-ones c = let w = ends (goal.at.overflow_cast-ones c).In_ok-x in let p = c.requires.2 in omega arith

pub bounds-ones-k : goal.bounds-ones-k
bounds-ones-k c = omega (arith, c.loop-k.invariant.3, c.requires.3)

pub overflow_cast-twos : goal.overflow_cast-twos
overflow_cast-twos c = let w = ends (goal.at.overflow_cast-twos c).In_ok-x in let p = c.requires.2 in omega arith

pub bounds-twos-k : goal.bounds-twos-k
bounds-twos-k c = omega (arith, c.loop-k.invariant.4, c.requires.4)

pub loop-k-preserved : goal.loop-k-preserved
loop-k-preserved c =
    let l = c.loop-k in
    let d = c.args.d.now in
    let t = there (goal.at.loop-k-preserved c).In_ok-x in
    let b = ap (ends_of_line d) l.invariant.1 ∙ sym (bond_is d l.k) in (
      omega arith,
      sym (ap (λ (x : Numbers). x.next) t.1) ∙ ap (next_line d) l.invariant.1 ∙ sym (later_more d (atom_line_place d (atom_line_count d)) l.k),
      turn_more (bond_reply_of d) l.k l.invariant.2 (at-line (goal.at.loop-k-preserved c).In_ok-x),
      length-set l.ones l.k _ ∙ l.invariant.3,
      length-set l.twos l.k _ ∙ l.invariant.4,
      holds_more (one d) l.ones l.k _ (omega (arith, l.invariant.3, c.requires.3)) l.invariant.5 (sym (ap (λ (x : Numbers). x.one) t.1) ∙ ap (λ (x : Bond). x.one) b),
      holds_more (two d) l.twos l.k _ (omega (arith, l.invariant.4, c.requires.4)) l.invariant.6 (sym (ap (λ (x : Numbers). x.two) t.1) ∙ ap (λ (x : Bond). x.two) b),
    )

pub shape_of-ones : goal.shape_of-ones
shape_of-ones c = c.loop-k.invariant.3

pub shape_of-twos : goal.shape_of-twos
shape_of-twos c = c.loop-k.invariant.4

pub returns : goal.returns
returns c =
    let l = c.loop-k in
    let a = c.args in
    let d = a.d.now in
    let e : l.k ≡ a.m = omega arith in
    let t = rw e at l.invariant.2 in
    record {
      reply = ap Ok (rw e at l.invariant.1) ∙ sym (ap (said_walk (bond_line_place d a.m)) t);
      ends = λ z. record { one = λ j h. l.invariant.5 j (omega arith); two = λ j h. l.invariant.6 j (omega arith) };
      same_one = l.invariant.3;
      same_two = l.invariant.4;
    }
