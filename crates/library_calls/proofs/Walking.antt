-- What the C functions for libraries answer, by what the library says. Assumes nothing.
use Prim.Native.Nat.{ℕ, ◌≤◌, ◌<◌}
use mathlib.Core.List.{List, [], ◌∷◌}
use mathlib.Core.Path.{◌≡◌, refl, sym, ◌∙◌, ap}
use native.Mathlib.Omega.{arith}
use borrow.Author.Tests.{le-ltb}
use lib.ListN.{length}
use Rattle.reply.specs.Read.{Read, refused, read}
use Rattle.records.specs.declared.Sheet.{Sheet}
use Rattle.catalogue.specs.Products.{Product, done, made}
use Rattle.library.specs.Steps.{Ran, step_reply, step_out, said_step, run_of}
use Rattle.library.specs.Running.{run_stops, run_ends}
use Rattle.calls.specs.Convention.{over}
use Rattle.library_calls.specs.Libraries.{with_next, step_code, made_out, stepped_code, stepped_next, Walked}
use Rattle.std.specs.Prelude.{Result, Option}
use Rattle.reply.specs.declared.Refusal.{Refusal}

-- a next position has room
room_next : (entries : ℕ) (answer : Read Product) → 1 ≤ entries → with_next entries answer ≡ answer
room_next entries (refused r) h = refl
room_next entries (read done) h = refl
room_next entries (read (made x)) h = rw (le-ltb entries 1 h)

said_code : (n : ℕ) (answer : Read Product) → stepped_code (said_step n answer) ≡ step_code answer
said_code n (refused r) = refl
said_code n (read done) = refl
said_code n (read (made x)) = refl

said_next : (n : ℕ) (answer : Read Product) (old : List ℕ) → stepped_next (said_step n answer) old ≡ made_out (over (n ∷ []) old) answer old
said_next n (refused r) old = refl
said_next n (read done) old = refl
said_next n (read (made x)) old = refl

-- without room nothing is written
stays : (answer : Read Product) (new old : List ℕ) → made_out new (with_next 0 answer) old ≡ old
stays (refused r) new old = refl
stays (read done) new old = refl
stays (read (made x)) new old = refl

module _ (answer : Read Product) (wrote : List ℕ) (position : ℕ) (out next : List ℕ) where
  pub walked_lacking : length next < 1 → (r : ℕ) → r ≡ step_code (with_next 0 answer) → Walked answer wrote position out next r out next
  walked_lacking h r e =
      let z : length next ≡ 0 = omega arith in
      record {
        replied = rw z e;
        written = rw z (sym (stays answer wrote out));
        told = rw z (sym (stays answer (over (position ∷ []) next) next));
      }

  pub walked_told : 1 ≤ length next → (told : Result (Option ℕ) Refusal) (r : ℕ) (out' next' : List ℕ) → told ≡ said_step position answer → r ≡ stepped_code told → next' ≡ stepped_next told next
      → out' ≡ wrote → wrote ≡ made_out wrote answer out → Walked answer wrote position out next r out' next'
  walked_told h told r out' next' e f g o w =
      let z = room_next (length next) answer h in
      record {
        replied = f ∙ ap stepped_code e ∙ said_code position answer ∙ ap step_code (sym z);
        written = o ∙ w ∙ ap (λ (y : Read Product). made_out wrote y out) (sym z);
        told = g ∙ ap (λ (y : Result (Option ℕ) Refusal). stepped_next y next) e ∙ said_next position answer next ∙ ap (λ (y : Read Product). made_out (over (position ∷ []) next) y next) (sym z);
      }

-- what a step writes, and a run
pub step_wrote : (s : Sheet) (out : List ℕ) (answer : Read Product) → step_out s out answer ≡ made_out (step_out s out answer) answer out
step_wrote s out (refused r) = refl
step_wrote s out (read done) = refl
step_wrote s out (read (made x)) = refl

pub run_wrote : (s : Sheet) (d : List ℕ) (position : ℕ) (out : List ℕ) → (run_of s d position out).out ≡ made_out (run_of s d position out).out (step_reply s d position (length out)) out
run_wrote s d position out = go (step_reply s d position (length out)) refl
  where
    go : (x : Read Product) → step_reply s d position (length out) ≡ x → (run_of s d position out).out ≡ made_out (run_of s d position out).out x out
    go (refused r) e = ap (λ (y : Ran). y.out) (run_stops s d position out (length out) r e)
    go (read done) e = ap (λ (y : Ran). y.out) (run_ends s d position out (length out) e)
    go (read (made x)) e = refl

-- each reply, each output of a step or a run is determined
pub walked_once : {answer : Read Product} {wrote : List ℕ} {position : ℕ} {out next out' out'' next' next'' : List ℕ} {x y : ℕ} → Walked answer wrote position out next x out' next'
    → Walked answer wrote position out next y out'' next'' → (x ≡ y) × (out' ≡ out'') × (next' ≡ next'')
walked_once p q = (p.replied ∙ sym q.replied, p.written ∙ sym q.written, p.told ∙ sym q.told)
