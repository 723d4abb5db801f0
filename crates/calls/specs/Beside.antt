-- Definitions. A C function with two outputs: bonds and the numbers of atoms and bonds, a text and its length, a number for each bond and one number beside them.
use Rattle.std.specs.Prelude.{ℕ, ◌≡◌, List, ltb}
use Rattle.reply.specs.Read.{Read, read, ◌then◌, refuse_if}
use Rattle.calls.specs.Convention.{coded, out_after}

-- the answer, then 9 at 0 where fewer entries are lent for the second output than it wants
abbrev pub with_room : {A : Type 0} → ℕ → ℕ → Read A → Read A
with_room entries wanted answer = answer then λ a. refuse_if (ltb entries wanted) 9 0 then λ _. read a

-- the reply, and both outputs after the call: a refusal changes neither
pub record Beside {A B C : Type 0} (answer : Read A) (one : A → List B) (two : A → List C) (old : List B) (more : List C) (reply : ℕ) (old' : List B) (more' : List C) : Type 0 where
  pub replied : reply ≡ coded answer
  pub first : old' ≡ out_after (answer then λ a. read (one a)) old
  pub second : more' ≡ out_after (answer then λ a. read (two a)) more
