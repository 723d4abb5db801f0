use mathlib.Core.Bool.{true, true≢false, false≢true}
use mathlib.Core.Path.{◌≡◌, refl, sym, ◌∙◌}
use native.Mathlib.Omega.{arith}
use borrow.Author.Tests.{not-true, not-false}
use Rattle.reply.specs.Read.{read}
use Rattle.block.specs.Block.{graph_of, drawn_reply}
use Rattle.block.specs.Found.{SearchTask}
use Rattle.block.specs.Told.{drawn_atoms, fine_drawn, passed}
use Rattle.block.proofs.Replies.{reply_fine}
use Rattle.block.proofs.Sketching.{sketch_whole}
use Rattle.block.proofs.admit.Goals as goal
use Rattle.block.proofs.admit.Goals.{Else-not-s}

pub draw-s-requires : goal.draw-s-requires
draw-s-requires c = c.requires

pub returns-then-not-s : goal.returns-then-not-s
returns-then-not-s c = record {
  ready = λ e. absurd (false≢true e);
  refuses = λ e b. c.draw-s.ensures.0.refuses (not-true _ c.if-not-s.true) (fine_drawn _ _ b);
}

-- 1 to 6 do not refuse, and the neighbours are drawn
fine : (c : Else-not-s) → c.draw-s.result.fine ≡ true
fine c = not-false _ c.if-not-s.false

read-fine : (c : Else-not-s) → let s = c.args in drawn_reply s.n s.bonds.now ≡ read tt
read-fine c = c.draw-s.ensures.1 (fine c)

task : (c : Else-not-s) → let s = c.args in SearchTask (graph_of s.n s.bonds.now) c.draw-s.new.near s.n 1
task c =
    let w = drawn_atoms _ _ (read-fine c) in
    record { shown = c.draw-s.ensures.0.shown (fine c); size = refl; start = omega arith }

pub returns-then-s-first_atoms : goal.returns-then-s-first_atoms
returns-then-s-first_atoms c =
    let whole = sketch_whole _ _ c.draw-s.ensures.0 (fine (goal.at.returns-then-s-first_atoms c).Else-not-s) (read-fine (goal.at.returns-then-s-first_atoms c).Else-not-s) (c.if-s-first_atoms.true ∙ c.first_atoms.ensures) in
    record { ready = λ e. record { fine = reply_fine _ _ (read-fine (goal.at.returns-then-s-first_atoms c).Else-not-s) whole; shown = (task (goal.at.returns-then-s-first_atoms c).Else-not-s).shown }; refuses = λ e. absurd (true≢false e) }

pub connected-requires : goal.connected-requires
connected-requires c = (c.args.bonds.now, task (goal.at.connected-requires c).Else-not-s)

pub returns : goal.returns
returns c =
    let whole = c.connected.ensures _ (task (goal.at.returns c).Else-not-s) in
    record {
      ready = λ e. record { fine = reply_fine _ _ (read-fine (goal.at.returns c).Else-not-s) (sym whole ∙ e); shown = (task (goal.at.returns c).Else-not-s).shown };
      refuses = λ e b. true≢false (sym (passed _ _ b).whole ∙ sym whole ∙ e);
    }
