-- What is seen over the sets of a summary is small, whatever they are. Assumes nothing.
use Prim.Native.Nat.{ℕ, suc, ◌*◌, ◌-◌, ◌≤◌, ◌<◌, min}
use mathlib.Core.Bool.{Bool, true, false, cond}
use mathlib.Core.List.{List}
use mathlib.Core.Path.{◌≡◌, refl}
use native.Mathlib.Decide.{dec_lt}
use native.Mathlib.Omega.{arith}
use borrow.Author.Tests.{lt-ltb, le-ltb}
use lib.Dec.{eqb, ltb}
use lib.ListN.{get_or}
use Rattle.graph.specs.Graph.{sum, itself, is_even, even_one, odd_one, is_at}
use Rattle.graph.specs.Bounds.{Tame, tame_itself, tame_even, tame_odd}
use Rattle.graph.specs.Largest.{most_below}
use Rattle.graph.specs.Sums.{sum_le}
use Rattle.half.specs.Half.{most_atoms, table}
use Rattle.reply.specs.Read.{is_outside}
use Rattle.block.specs.Faults.{inside}
use Rattle.block.specs.Tables.{get_or-table}
use Rattle.sighted.specs.Sighted.{sets_in, told, counts_in, row_in, seen_in, seen_of, steps_in}
use Rattle.sighted.specs.Steps.{told_most}
use Rattle.summary.specs.Layout.{near_in, stored_atoms, seen_at, vertex_at, far_at}
use Rattle.joining.specs.Bounds.{Bytes}

one : (t : Bool) → cond {A = ℕ} t 1 0 ≤ 1
one true = omega arith
one false = omega arith

none : (t : Bool) → cond {A = ℕ} t 0 1 ≤ 1
none true = omega arith
none false = omega arith

module _ (sets : List ℕ) (n a : ℕ) (few : n ≤ most_atoms) where
  told-sum : (f : ℕ → ℕ) (c : ℕ) → ((j : ℕ) → j < n → f j ≤ c) → sum n (told sets n a f n) ≤ n * c
  told-sum f c h = sum_le n {f = told sets n a f n} {c = c} (λ b w. told_most sets n a f c n b w h)

  tamed : {f : ℕ → ℕ} → Tame f → sum n (told sets n a f n) ≤ n * 64
  tamed {f} t = told-sum f 64 (λ j l. omega (arith, t.tame j, few))

  pub counts_bytes : Bytes (counts_in sets n a n)
  unfolding counts_in even_one odd_one is_at
  counts_bytes = record {
    sum = omega (arith, tamed tame_itself, few);
    even = omega (arith, tamed tame_even, few);
    odd = omega (arith, tamed tame_odd, few);
    evens = omega (arith, told-sum even_one 1 (λ j l. one (is_even j)), few);
    odds = omega (arith, told-sum odd_one 1 (λ j l. none (is_even j)), few);
    ones = omega (arith, told-sum (is_at 1) 1 (λ j l. one (eqb j 1)), few);
    twos = omega (arith, told-sum (is_at 2) 1 (λ j l. one (eqb j 2)), few);
    farthest = omega (arith, most_below n (told sets n a itself n) 64 (λ b w. told_most sets n a itself 64 n b w (λ j l. omega (arith, few))));
  }

  row_few : (b : ℕ) → steps_in (row_in sets n a n) b < 65
  unfolding steps_in row_in
  row_few b = go (is_outside most_atoms b) refl
    where
      f : ℕ → ℕ
      f j = cond (ltb j n) (told sets n a itself n (suc j)) 0

      at : (j : ℕ) → Dec (j < n) → f j < 65
      at j (yes l) = rw (lt-ltb j n l) (omega (arith, told_most sets n a itself 64 n (suc j) (omega arith) (λ i h. omega (arith, few))))
      at j (no l) = rw (le-ltb j n (omega arith)) (omega arith)

      go : (t : Bool) → is_outside most_atoms b ≡ t → cond t 0 (get_or (table most_atoms f) (b - 1) 0) < 65
      go true e = omega arith
      go false e = let w = inside most_atoms b e in omega (arith, get_or-table most_atoms f (b - 1) 0 (omega arith), at (b - 1) (dec_lt (b - 1) n))

module _ (s : List ℕ) (i : ℕ) where
  abbrev n : ℕ
  n = min (stored_atoms s) most_atoms

  pub vertex_bytes : Bytes (vertex_at s i)
  unfolding seen_at seen_of seen_in
  vertex_bytes = counts_bytes (sets_in (near_in s)) n i (omega arith)

  pub far_few : (j : ℕ) → far_at s i j < 65
  unfolding seen_at seen_of seen_in
  far_few j = row_few (sets_in (near_in s)) n i (omega arith) j
