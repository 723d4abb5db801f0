-- What a block that is not refused brings to the work. Assumes nothing.
use Prim.Native.Nat.{ℕ, suc, ◌-◌, ◌/◌, ◌≤◌, ◌<◌}
use mathlib.Core.List.{List}
use mathlib.Core.Path.{◌≡◌, refl, sym, ap, ◌∙◌}
use native.Mathlib.Omega.{arith}
use lib.ListN.{length, get_or, replicate}
use Rattle.graph.specs.Graph.{Within, distance, sum}
use Rattle.graph.specs.Notions.{Plain, lcm_starts}
use Rattle.reply.specs.Read.{read}
use Rattle.half.specs.Half.{half_row}
use Rattle.block.specs.Block.{most_atoms, most_bytes, bonds_of, graph_of, block_reply}
use Rattle.block.specs.Rows.{row_of, far_of, half_table}
use Rattle.block.specs.Opened.{neighbours_of}
use Rattle.block.specs.Drawn.{neighbour_fits, has_neighbour}
use Rattle.block.specs.Told.{few_atoms, fine_drawn, drawn_plain, molecule, entry_at, farthest_at}
use Rattle.block.specs.Halved.{table_row}
use Rattle.block.specs.Numbered.{few_bytes}
use Rattle.block.specs.Lent.{zeros}
use Rattle.shares.specs.Work.{BlockGiven, WholeBlock, Sofar}

module _ (n : ℕ) (xs : List ℕ) (fine : block_reply n xs ≡ read tt) where
  pub plain : Plain n (bonds_of xs)
  plain = drawn_plain n xs (fine_drawn n xs fine)

  pub few : n ≤ most_atoms
  few = (few_atoms n xs fine).high

  -- its neighbours, half of its distances, and the largest from each atom
  pub given : (near half fars : List ℕ) → near ≡ neighbours_of (graph_of n xs) → half ≡ half_table n xs → fars ≡ far_of n xs
      → BlockGiven n (bonds_of xs) near half fars
  given near half fars e h f = record {
    small = few;
    molecule = molecule n xs fine;
    beside = rw e (record { each = λ v w a b. has_neighbour (graph_of n xs) v w (inner a) b; fits = λ v a. neighbour_fits (graph_of n xs) v (inner a) });
    far = λ i a. rw h (record { shows = λ j l. row_shows i a j l });
    largest = λ i a. rw f (farthest_at n xs fine a);
  }
    where
      inner : {v : ℕ} → Within n v → Within most_atoms v
      inner a = record { low = a.low; high = omega (arith, few) }

      row_shows : (i : ℕ) → Within n i → (j : ℕ) → j < n → get_or (half_row (half_table n xs) i) j 0 ≡ distance (graph_of n xs) i (suc j)
      row_shows i a j l =
          let e : suc j - 1 ≡ j = omega arith in
          ap (λ (row : List ℕ). get_or row j 0) (table_row n xs fine a) ∙ ap (λ (k : ℕ). get_or (row_of (graph_of n xs) i) k 0) (sym e)
          ∙ entry_at n xs fine i (record { low = omega arith; high = l })

  pub whole : WholeBlock n xs 0 1
  unfolding lcm_starts
  whole = record { small = few; molecule = molecule n xs fine; plain = plain; is = refl; low = omega arith }

  pub few_bonds : length xs / 2 ≤ most_bytes / 2
  few_bonds = omega (arith, few_bytes n xs fine)

-- entries of 0 have what no start adds up to
pub nothing : (n : ℕ) (xs : List ℕ) → length xs / 2 ≤ most_bytes / 2 → Sofar n xs 0 1 (replicate (most_bytes / 2) 0)
unfolding sum
nothing n xs l = record { room = l; first = λ k h. zeros (most_bytes / 2) k }
