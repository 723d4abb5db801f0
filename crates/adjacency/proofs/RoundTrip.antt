-- Laws. Reading a written text gives the block's bonds in the order of the text, the smaller end first; writing those gives the same text. Assumes nothing.
use Rattle.std.specs.Prelude.{ℕ, ◌%◌, ◌<◌, ◌≤◌, Bool, ◌⊎◌, ◌≡◌, ltb, take, drop}
use Rattle.std.proofs.Math.Bool.{true, false}
use Rattle.std.proofs.Common.{true≢false, inl, inr, ⊎_elim, sym, ◌∙◌, ap₂, subst}
use mathlib.Core.List.{List, []}
use Rattle.std.proofs.Math.Path.{refl, ap}
use native.Mathlib.Omega.{arith}
use Rattle.std.proofs.Math.Decide.{ℕ_discrete}
use borrow.Author.Tests.{eq-eqb, le-ltb, ltb-true, ltb-false}
use Rattle.std.proofs.Math.ListN.{length}
use Rattle.std.proofs.Math.Seq.{take-append_seam}
use Rattle.graph.specs.Graph.{Graph, Bond, Within, Sound, Walk, stay, step, bonded, any_joins, connected, degree}
use Rattle.graph.specs.Bonds.{any_joins_sym}
use Rattle.graph.specs.Ends.{plain_ends}
use Rattle.graph.specs.Sums.{sum_cong, sum_le}
use Rattle.graph.specs.Connected.{connected_is_linked}
use Rattle.reply.specs.Read.{Read, refused, read, refusal, ◌then◌, refuse_if}
use Rattle.reply.specs.Chain.{then-read}
use Rattle.block.specs.Block.{most_bytes, limit, bonds_of, graph_of, bonds_reply, block_reply}
use Rattle.block.specs.Numbered.{ends_apart}
use Rattle.block.specs.Told.{passed, bonds_plain, fine_drawn, drawn_plain, few_atoms, sound, molecule}
use Rattle.adjacency.specs.Neighbours.{steps, bonds_length, bond_list_bytes, neighbours_reply, bytes_after}
use Rattle.adjacency.specs.Written.{written_text, neighbours_write_reply, text_after}
use Rattle.adjacency.specs.Canonical.{bonds_up_to, canonical}
use Rattle.adjacency.specs.RoundTrip.{bonds_left, RoundTrip}
use Rattle.adjacency.specs.Work.{longest, until, any_high, FewBonds, high_reply}
use Rattle.adjacency.proofs.Blocks.{bytes_length, bytes_bonds, until_all, no_room, all_read}
use Rattle.adjacency.specs.Writing.{text_same}
use Rattle.adjacency.proofs.Putting.{text_short}
use Rattle.adjacency.proofs.Degrees.{canonical_degree, canonical_few}
use Rattle.adjacency.proofs.Order.{all_out, all_in, order_fine}
use Rattle.adjacency.proofs.Again.{Reread, reread}

module _ (n : ℕ) (xs : List ℕ) (fine : block_reply n xs ≡ read tt) where
  abbrev bs : List Bond
  bs = bonds_of xs

  abbrev cs : List Bond
  cs = bonds_up_to (any_joins bs) n n

  -- the two lists join the same atoms
  joins_out : (u v : ℕ) → any_joins cs u v ≡ true → any_joins bs u v ≡ true
  joins_out u v e = ⊎_elim (λ r. r.holds) (λ r. any_joins_sym bs u v ∙ r.holds) (all_out (any_joins bs) n n u v e)

  joins_in : (u v : ℕ) → any_joins bs u v ≡ true → any_joins cs u v ≡ true
  unfolding bonded
  joins_in u v e = go (ℕ_discrete u v)
    where
      one : Within n u
      one = (sound n xs fine).ends u v e

      two : Within n v
      two = (sound n xs fine).ends v u (any_joins_sym bs v u ∙ e)

      order : (a b : ℕ) → (a ≡ b → ⊥) → (a < b) ⊎ (b < a)
      order a b d = pick (ltb a b) refl
        where
          pick : (t : Bool) → ltb a b ≡ t → (a < b) ⊎ (b < a)
          pick true t = inl (ltb-true a b t)
          pick false t = let l = ltb-false a b t in inr (omega arith)

      go : Dec (u ≡ v) → any_joins cs u v ≡ true
      go (yes d) = absurd (ends_apart n xs (fine_drawn n xs fine) u v e d)
      go (no d) =
          ⊎_elim (λ l. all_in (any_joins bs) n n u v one two l e)
          (λ l. any_joins_sym cs u v ∙ all_in (any_joins bs) n n v u two one l (any_joins_sym bs v u ∙ e)) (order u v d)

  pub same_joins : (u v : ℕ) → any_joins (canonical n bs) u v ≡ any_joins bs u v
  unfolding canonical
  same_joins u v = go (any_joins cs u v) (any_joins bs u v) refl refl
    where
      go : (s t : Bool) → any_joins cs u v ≡ s → any_joins bs u v ≡ t → s ≡ t
      go true true p q = refl
      go true false p q = absurd (true≢false (sym (joins_out u v p) ∙ q))
      go false true p q = absurd (true≢false (sym (joins_in u v q) ∙ p))
      go false false p q = refl

  -- so it is a molecule still
  abbrev other : Graph
  other = record { atoms = n; bonds = cs }

  walk_same : {i j k : ℕ} → Walk (graph_of n xs) i j k → Walk other i j k
  unfolding bonded
  walk_same stay = stay
  walk_same (step {v} {w} p b) = step (walk_same p) (joins_in v w b)

  sound_still : Sound other
  unfolding bonded
  sound_still = record { ends = λ v w e. (sound n xs fine).ends v w (joins_out v w e) }

  connected_still : connected other ≡ true
  connected_still =
      (connected_is_linked sound_still).1
      (record { linked = λ i j v w. let (k, p) = (molecule n xs fine).linked i j v w in (k, walk_same p) })

  bonds_pass : bonds_reply n [] cs ≡ read tt
  bonds_pass = order_fine (any_joins bs) n (canonical_few n xs fine) n (omega arith)

  pub same_count : length (canonical n bs) ≡ length bs
  unfolding canonical
  same_count =
      omega (
        arith,
        plain_ends n cs (bonds_plain n [] cs bonds_pass),
        plain_ends n bs (drawn_plain n xs (fine_drawn n xs fine)),
        sum_cong n {f = λ v. degree cs v} {h = λ v. degree bs v} (λ v w. canonical_degree n xs fine v w),
      )

  short_still : bonds_length cs ≤ most_bytes
  short_still =
      let a = few_atoms n xs fine in
      omega (arith, plain_ends n cs (bonds_plain n [] cs bonds_pass), sum_le n {f = λ v. degree cs v} {c = limit} (λ v w. canonical_few n xs fine v w))

  pub fine_again : block_reply n (bond_list_bytes (canonical n bs)) ≡ read tt
  unfolding block_reply canonical
  fine_again =
      let l = bytes_length cs in
      let m : length (bond_list_bytes cs) % 2 ≡ 0 = omega arith in
      rw ((passed n xs fine).size, eq-eqb (length (bond_list_bytes cs) % 2) 0 m, le-ltb most_bytes (length (bond_list_bytes cs)) (omega (arith, short_still)), bytes_bonds cs, bonds_pass, connected_still)

  -- no text is longer, and it is short enough for what the writer keeps of it
  pub text_most : length (written_text n bs) ≤ 901
  text_most = let a = few_atoms n xs fine in omega (arith, text_short (any_joins bs) n a.high, short_still)

  pub text_fits : length (written_text n bs) ≤ longest
  text_fits = omega (arith, text_most)

  until_is : {room : ℕ} (r : Reread (any_joins bs) n (few_atoms n xs fine).high room) → until n (steps r.rest) ≡ cs
  until_is r = until_all n (steps r.rest) r.low ∙ r.bonds

  fit : {room : ℕ} (r : Reread (any_joins bs) n (few_atoms n xs fine).high room) → FewBonds n (steps r.rest)
  fit r = let a = few_atoms n xs fine in record { low = λ z. omega arith; high = a.high; short = rw r.bonds short_still }

  all_judged : {room : ℕ} (r : Reread (any_joins bs) n (few_atoms n xs fine).high room) → high_reply n (bond_list_bytes (until n (steps r.rest))) (any_high n (steps r.rest)) ≡ read tt
  unfolding canonical
  all_judged r = rw (until_is r, r.low) fine_again

  -- READING A WRITTEN TEXT
  pub reads_back : (room : ℕ) → bonds_length (canonical n bs) ≤ room → neighbours_reply (written_text n bs) room ≡ read (record { atoms = n; bonds = canonical n bs })
  unfolding canonical
  reads_back room h =
      let a = few_atoms n xs fine in
      let r = reread (any_joins bs) n a.high room in
      r.reply
      ∙ all_read n (steps r.rest) room (fit r) (all_judged r) (rw (until_is r) h)
      ∙ ap (λ (l : List Bond). read (record { atoms = n; bonds = l })) r.bonds

  pub reads_back_short : (room : ℕ) → room < bonds_length (canonical n bs) → neighbours_reply (written_text n bs) room ≡ refused (refusal 9 0)
  unfolding canonical
  reads_back_short room h =
      let a = few_atoms n xs fine in
      let r = reread (any_joins bs) n a.high room in
      r.reply ∙ no_room n (steps r.rest) room (fit r) (all_judged r) (rw (until_is r) h)

  -- AND WRITING AGAIN
  pub writes_same : written_text n (canonical n bs) ≡ written_text n bs
  writes_same = text_same n (any_joins (canonical n bs)) (any_joins bs) (λ i j v w l. same_joins i j)

  pub writes_again : (room : ℕ) → neighbours_write_reply n (bond_list_bytes (canonical n bs)) room ≡ neighbours_write_reply n xs room
  unfolding neighbours_write_reply
  writes_again room = rw (fine, fine_again, bytes_bonds (canonical n bs), writes_same)

-- THE ROUND TRIP over the lent bytes
-- what writing answers with a text: the block is fine, and that many of the lent bytes are its text
pub wrote : (n : ℕ) (xs out t : List ℕ) → neighbours_write_reply n xs (length out) ≡ read t
    → (block_reply n xs ≡ read tt) × (t ≡ written_text n (bonds_of xs)) × (take (length t) (text_after (neighbours_write_reply n xs (length out)) out) ≡ t)
unfolding neighbours_write_reply
wrote n xs out t e =
    let (u, f, g) = parts e in
    let (v, p, q) = then-read (refuse_if (ltb (length out) (length (written_text n (bonds_of xs)))) 9 0) (λ _. read (written_text n (bonds_of xs))) g in
    (f, cc, ap (λ (r : Read (List ℕ)). take (length t) (text_after r out)) e ∙ take-append_seam t (drop (length t) out))
  where
    parts : neighbours_write_reply n xs (length out) ≡ read t → (u : Unit {0}) × (block_reply n xs ≡ read u)
        × ((refuse_if (ltb (length out) (length (written_text n (bonds_of xs)))) 9 0 then λ _. read (written_text n (bonds_of xs))) ≡ read t)
    parts = then-read (block_reply n xs) (λ _. refuse_if (ltb (length out) (length (written_text n (bonds_of xs)))) 9 0 then λ _. read (written_text n (bonds_of xs)))

pub round_trip : (n : ℕ) (xs out bonds t : List ℕ) → neighbours_write_reply n xs (length out) ≡ read t → bonds_length (bonds_of xs) ≤ length bonds
    → RoundTrip n xs (take (length t) (text_after (neighbours_write_reply n xs (length out)) out)) bonds
round_trip n xs out bonds t e h =
    let (fine, is, seen) = wrote n xs out t e in
    subst (λ (s : List ℕ). RoundTrip n xs s bonds) (sym (seen ∙ is)) (whole fine)
  where
    whole : block_reply n xs ≡ read tt → RoundTrip n xs (written_text n (bonds_of xs)) bonds
    whole fine =
        let cs = canonical n (bonds_of xs) in
        let c = same_count n xs fine in
        let r = reads_back n xs fine (length bonds) (omega (arith, c)) in
        let k : bonds_length (bonds_of xs) ≡ length (bond_list_bytes cs) = omega (arith, c, bytes_length cs) in
        let b : bonds_left xs (written_text n (bonds_of xs)) bonds ≡ bond_list_bytes cs =
        ap₂ (λ (k : ℕ) (g : Read Graph). take k (bytes_after g bonds)) k r ∙ take-append_seam (bond_list_bytes cs) (drop (bonds_length cs) bonds) in
        let w : (room : ℕ) → neighbours_write_reply n (bonds_left xs (written_text n (bonds_of xs)) bonds) room ≡ neighbours_write_reply n xs room =
        λ room. ap (λ (ys : List ℕ). neighbours_write_reply n ys room) b ∙ writes_again n xs fine room in
        record { reply = r; bytes = b; told = w; again = λ out. ap (λ (y : Read (List ℕ)). text_after y out) (w (length out)) }
