-- Laws. A file that is read as a block is read whole as the same molecule. Assumes nothing.
use Rattle.std.specs.Prelude.{ℕ, List, ◌≡◌, ltb, length, Ok}
use Rattle.std.proofs.Common.{sym, ◌∙◌, ap, arith, ne_eqb}
use Rattle.reply.specs.Read.{Read, read, ◌then◌, refuse_if}
use Rattle.reply.specs.Chain.{then-read, counted_read}
use Rattle.reply.specs.declared.Counts.{Counts}
use Rattle.block.specs.Block.{block_reply}
use Rattle.block.specs.Told.{passed, few_atoms}
use Rattle.molfile.specs.Molfile.{lines_reply, kept_atoms, bytes_of, file_reply, molfile_reply}
use Rattle.molfile.specs.Said.{said_molfile, molfile_bytes, filled_bonds}
use Rattle.wholefile.specs.Whole.{molecule_reply, whole_file_reply}
use Rattle.wholefile.specs.Said.{whole_numbers}

-- a block that is not refused is a molecule
block_molecule : (n : ℕ) (xs : List ℕ) → block_reply n xs ≡ read tt → molecule_reply n xs ≡ read tt
unfolding molecule_reply
block_molecule n xs e =
    let z = few_atoms n xs e in
    rw (ne_eqb n 0 (λ q. omega arith), (passed n xs e).bonds)

whole_read : (d : List ℕ) (room : ℕ) → molfile_reply d room ≡ read tt → whole_file_reply d room ≡ read tt
unfolding file_reply
whole_read d room e =
    let n = kept_atoms d in
    let xs = bytes_of d in
    let (u, a, b) = then-read (lines_reply d) (λ _. block_reply n xs then λ _. refuse_if (ltb room (length xs)) 9 0) e in
    let (v, f, g) = then-read (block_reply n xs) (λ _. refuse_if (ltb room (length xs)) 9 0) b in
    rw (a, block_molecule n xs f) g

-- where `read` gives a block into so many bytes, `read_whole` gives the same atoms and bonds into as many numbers
pub whole_same : (d out : List ℕ) (c : Counts) → said_molfile d (molfile_reply d (length out)) ≡ Ok c
    → (said_molfile d (whole_file_reply d (length out)) ≡ Ok c) × (whole_numbers d out ≡ molfile_bytes d out)
whole_same d out c e =
    let (u, r, n) = counted_read (molfile_reply d (length out)) _ e in
    let w = whole_read d (length out) r in
    (ap (said_molfile d) w ∙ ap Ok n, ap (λ (m : Read (Unit {0})). filled_bonds m (bytes_of d) out) (w ∙ sym r))
