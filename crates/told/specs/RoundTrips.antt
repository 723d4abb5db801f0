-- Laws. THERE AND BACK OVER THE C FUNCTIONS' PROMISES: what writing a block leaves is read as that block into whatever is lent, and for neighbour texts writing
-- what was read leaves the same bytes. Assumes nothing.
use Rattle.std.specs.Prelude.{ℕ, ◌/◌, ◌≤◌, Bool, true, false, List, [], ◌∷◌, ◌≡◌, ltb, length, get_or, take, drop}
use Rattle.std.proofs.Common.{sym, ◌∙◌, ap, ap₂, subst, arith, le-ltb, take_at}
use Rattle.std.proofs.Math.Seq.{take-append_seam}
use Rattle.graph.specs.Graph.{Graph, Bond}
use Rattle.reply.specs.Read.{Read, refused, read, ◌then◌, refuse_if}
use Rattle.reply.specs.Chain.{then-read}
use Rattle.block.specs.Block.{bonds_of, block_reply}
use Rattle.molfile.specs.Molfile.{kept_atoms, bytes_of, molfile_reply}
use Rattle.molwriter.specs.Written.{molfile_text, molfile_write_reply}
use Rattle.molwriter.specs.RoundTrip.{ReadsBack, reads_back}
use Rattle.adjacency.specs.Neighbours.{bonds_length, bond_list_bytes}
use Rattle.adjacency.specs.Canonical.{canonical}
use Rattle.adjacency.proofs.Blocks.{bytes_length}
use Rattle.adjacency.specs.Written.{neighbours_write_reply, text_after}
use Rattle.adjacency.specs.RoundTrip.{RoundTrip}
use Rattle.adjacency.proofs.RoundTrip as texts
use Rattle.calls.specs.Convention.{coded, out_after, over}
use Rattle.calls.specs.Beside.{with_room}
use Rattle.text_calls.specs.Molfiles.{read_reply, MolfileRead, written_reply, MolfileWritten}
use Rattle.text_calls.specs.Texts.{text_reply, TextRead, told_reply, TextWritten}
use Rattle.told.specs.Recovered.{molfile_written_tells}
use Rattle.told.specs.Texts.{neighbours_written_tells}

-- an answer with room beside it
room_read : {A : Type 0} (entries wanted : ℕ) (x : Read A) (a : A) → with_room entries wanted x ≡ read a → x ≡ read a
room_read entries wanted (refused r) a e = absurd (let z : ◌≡◌ {A = ℕ} 0 1 = cc in omega arith)
room_read entries wanted (read b) a e = go (ltb entries wanted) e
  where
    go : (t : Bool) → (refuse_if t 9 0 then λ _. read b) ≡ read a → read b ≡ read a
    go true f = absurd (let z : ◌≡◌ {A = ℕ} 0 1 = cc in omega arith)
    go false f = f

room_there : {A : Type 0} (entries wanted : ℕ) (a : A) → wanted ≤ entries → with_room entries wanted (read a) ≡ read a
room_there entries wanted a h = rw (le-ltb entries wanted h)

-- MOLFILES. A text was written, told as k bytes: its first k bytes are read.
sized : (n : ℕ) (xs : List ℕ) (room k : ℕ) → molfile_write_reply n xs room ≡ read k → (block_reply n xs ≡ read tt) × (length (molfile_text n (bonds_of xs)) ≡ k)
unfolding molfile_write_reply
sized n xs room k e =
    let text = molfile_text n (bonds_of xs) in
    let (u, f, g) = then-read (block_reply n xs) (λ _. refuse_if (ltb room (length text)) 9 0 then λ _. read (length text)) e in
    let (v, p, q) = then-read (refuse_if (ltb room (length text)) 9 0) (λ _. read (length text)) g in
    (f, cc)

-- what reading a text leaves that is a block's
molfile_reads : (n : ℕ) (xs s : List ℕ) → block_reply n xs ≡ read tt → s ≡ molfile_text n (bonds_of xs) → (bonds counts bonds' counts' : List ℕ) (r : ℕ)
    → MolfileRead s bonds counts r bonds' counts' → length xs ≤ length bonds → 2 ≤ length counts → (r ≡ 0) × (take (length xs) bonds' ≡ xs) × (take 2 counts' ≡ n ∷ length xs / 2 ∷ [])
molfile_reads n xs s fine is bonds counts bonds' counts' r m h c =
    let b : ReadsBack n xs (length bonds) s = subst (ReadsBack n xs (length bonds)) (sym is) (reads_back n xs (length bonds) fine) in
    let told : molfile_reply s (length bonds) ≡ read tt = b.reply ∙ ap (λ (v : Bool). refuse_if v 9 0) (le-ltb (length bonds) (length xs) h) in
    let a : read_reply s (length bonds) (length counts) ≡ read tt = ap (with_room (length counts) 2) told ∙ room_there (length counts) 2 tt c in (
      m.replied ∙ ap coded a,
      ap (take (length xs)) (m.first ∙ ap (λ (v : Read (Unit {0})). out_after (v then λ _. read (bytes_of s)) bonds) a ∙ ap (λ (ys : List ℕ). over ys bonds) b.bytes) ∙ take-append_seam xs (drop (length xs) bonds),
      ap (take 2) (m.second ∙ ap (λ (v : Read (Unit {0})). out_after (v then λ _. read (kept_atoms s ∷ length (bytes_of s) / 2 ∷ [])) counts) a) ∙ ap₂ (λ (v w : ℕ). v ∷ w ∷ []) b.atoms (ap (λ (ys : List ℕ). length ys / 2) b.bytes),
    )

module _ (n : ℕ) (xs text told text' told' : List ℕ) (w : MolfileWritten n xs text told 0 text' told') where
  written : (a : ℕ) × (written_reply n xs (length text) (length told) ≡ read a)
  written = (molfile_written_tells n xs (length text) (length told)).fine (sym w.replied)

  made : (block_reply n xs ≡ read tt) × (length (molfile_text n (bonds_of xs)) ≡ written.0)
  made = sized n xs (length text) written.0 (room_read (length told) 1 (molfile_write_reply n xs (length text)) written.0 written.1)

  told_is : get_or told' 0 0 ≡ written.0
  told_is = ap (λ (l : List ℕ). get_or l 0 0) (w.second ∙ ap (λ (r : Read ℕ). out_after (r then λ a. read (a ∷ [])) told) written.1)

  text_is : take (get_or told' 0 0) text' ≡ molfile_text n (bonds_of xs)
  text_is =
      ap (λ (j : ℕ). take j text') told_is
      ∙ ap (take written.0) (w.first ∙ ap (λ (r : Read ℕ). out_after (r then λ _. read (molfile_text n (bonds_of xs))) text) written.1)
      ∙ take_at (molfile_text n (bonds_of xs)) (drop (length (molfile_text n (bonds_of xs))) text) written.0 made.1

  -- the bytes that were told are read as the block: its atoms, its bonds in their order, byte for byte
  pub molfile_back : (bonds counts bonds' counts' : List ℕ) (r : ℕ) → MolfileRead (take (get_or told' 0 0) text') bonds counts r bonds' counts' → length xs ≤ length bonds → 2 ≤ length counts
      → (r ≡ 0) × (take (length xs) bonds' ≡ xs) × (take 2 counts' ≡ n ∷ length xs / 2 ∷ [])
  molfile_back = molfile_reads n xs (take (get_or told' 0 0) text') made.0 text_is

-- NEIGHBOUR TEXTS
module _ (n : ℕ) (xs text told text' told' : List ℕ) (w : TextWritten n xs text told 0 text' told') where
  wrote : (t : List ℕ) × (told_reply n xs (length text) (length told) ≡ read t)
  wrote = (neighbours_written_tells n xs (length text) (length told)).fine (sym w.replied)

  abbrev t : List ℕ
  t = wrote.0

  done : neighbours_write_reply n xs (length text) ≡ read t
  done = room_read (length told) 1 (neighbours_write_reply n xs (length text)) t wrote.1

  long_is : get_or told' 0 0 ≡ length t
  long_is = ap (λ (l : List ℕ). get_or l 0 0) (w.second ∙ ap (λ (r : Read (List ℕ)). out_after (r then λ t. read (length t ∷ [])) told) wrote.1)

  left_is : text' ≡ text_after (neighbours_write_reply n xs (length text)) text
  left_is = w.first ∙ ap (λ (r : Read (List ℕ)). out_after (r then λ t. read t) text) wrote.1 ∙ ap (λ (r : Read (List ℕ)). text_after r text) (sym done)

  fine : block_reply n xs ≡ read tt
  fine = (texts.wrote n xs text t done).0

  abbrev cs : List Bond
  cs = canonical n (bonds_of xs)

  size : length (bond_list_bytes cs) ≡ bonds_length (bonds_of xs)
  size = omega (arith, bytes_length cs, texts.same_count n xs fine)

  -- the bytes that were told are read as the block's bonds in the text's order, smaller end first; and writing these tells and leaves the same
  pub text_back : (bonds counts bonds' counts' : List ℕ) (r : ℕ) → TextRead (take (get_or told' 0 0) text') bonds counts r bonds' counts' → bonds_length (bonds_of xs) ≤ length bonds → 2 ≤ length counts
      → (r ≡ 0) × (take (bonds_length (bonds_of xs)) bonds' ≡ bond_list_bytes cs) × (take 2 counts' ≡ n ∷ length cs ∷ [])
  text_back bonds counts bonds' counts' r m h c =
      let s = take (get_or told' 0 0) text' in
      let is : take (length t) (text_after (neighbours_write_reply n xs (length text)) text) ≡ s = ap₂ (λ (j : ℕ) (l : List ℕ). take j l) (sym long_is) (sym left_is) in
      let g : Graph = record { atoms = n; bonds = cs } in
      let R = subst (λ (l : List ℕ). RoundTrip n xs l bonds) is (texts.round_trip n xs text bonds t done h) in
      let a : text_reply s (length bonds) (length counts) ≡ read g = ap (with_room (length counts) 2) R.reply ∙ room_there (length counts) 2 g c in (
        m.replied ∙ ap coded a,
        ap (take (bonds_length (bonds_of xs))) (m.first ∙ ap (λ (v : Read Graph). out_after (v then λ g. read (bond_list_bytes g.bonds)) bonds) a) ∙ take_at (bond_list_bytes cs) (drop (length (bond_list_bytes cs)) bonds) (bonds_length (bonds_of xs)) size,
        ap (take 2) (m.second ∙ ap (λ (v : Read Graph). out_after (v then λ g. read (g.atoms ∷ length g.bonds ∷ [])) counts) a),
      )

  pub text_again : (r : ℕ) (text'' told'' : List ℕ) → TextWritten n (bond_list_bytes cs) text told r text'' told'' → (r ≡ 0) × (text'' ≡ text') × (told'' ≡ told')
  text_again r text'' told'' v =
      let same : told_reply n (bond_list_bytes cs) (length text) (length told) ≡ told_reply n xs (length text) (length told) = ap (with_room (length told) 1) (texts.writes_again n xs fine (length text)) in (
        v.replied ∙ ap coded same ∙ sym w.replied,
        v.first ∙ ap (λ (x : Read (List ℕ)). out_after (x then λ t. read t) text) same ∙ sym w.first,
        v.second ∙ ap (λ (x : Read (List ℕ)). out_after (x then λ t. read (length t ∷ [])) told) same ∙ sym w.second,
      )
