-- Laws. Over the summaries of a book of molecules the number of two placed atoms is their distance in the one molecule with every atom and bond written out. Assumes nothing.
use Rattle.std.specs.Prelude.{ℕ, zero, suc, ◌+◌, ◌-◌, ◌≤◌, false, List, ◌≡◌, refl}
use Rattle.std.proofs.Common.{◌∙◌, ap, arith, ne_eqb, le-ltb}
use Rattle.graph.specs.Graph.{Graph, Within}
use Rattle.graph.specs.Assembly.{Join, start_at, atom_of, Assembled, Placed}
use Rattle.graph.specs.Climb.{apart, placed_within}
use Rattle.reply.specs.Read.{read, is_outside}
use Rattle.assembly.specs.Book.{Book}
use Rattle.assembly.specs.Placements.{most_placements, placement_count, placement_at, graph_on, join_on, assembly_reply}
use Rattle.assembly.specs.Sound as assembly
use Rattle.joining.specs.Parts.{Part, far_in}
use Rattle.joining.specs.Table.{Table, table_of, start_by, Told}
use Rattle.joining.proofs.Whole.{whole}
use Rattle.joining.proofs.Climb.{far_keeps}
use Rattle.joining.proofs.Written.{agrees_self, written_agrees}
use Rattle.summaries.specs.Composing.{kept_on}
use Rattle.summaries.specs.Written.{HonestBook}
use Rattle.climb.specs.Far.{placed_far}

abbrev tables : (ℕ → Graph) → ℕ → Table
tables blocks k = table_of (blocks k)

starts : (blocks : ℕ → Graph) (k : ℕ) → start_by (tables blocks) k ≡ start_at blocks k
unfolding start_by start_at
starts blocks zero = refl
starts blocks (suc k) = ap (λ (n : ℕ). n + (blocks k).atoms) (starts blocks k)

-- THE DISTANCE WRITTEN OUT: of an assembly of molecules whose tables are kept
parts_written : {parts : ℕ → Part} {blocks : ℕ → Graph} {joins : ℕ → Join} {m k i l j : ℕ} → Assembled blocks joins m → ((n : ℕ) → n ≤ m → Told (parts n) (table_of (blocks n)))
    → Placed blocks m k i → Placed blocks m l j → far_in parts joins m (k - 1) i (l - 1) j ≡ apart blocks joins m k i l j
parts_written {parts} {blocks} {joins} {m} {k} {i} {l} {j} a t p q =
    (whole {parts = parts} {tables = tables blocks} {joins = joins} m t (λ n h g. let s = a.stands n h g in record { parent = s.parent; site = s.site; own = s.own })).far (k - 1) i (l - 1) j (omega (arith, p.number)) p.atom (omega (arith, q.number)) q.atom
    ∙ rw (starts blocks (k - 1), starts blocks (l - 1)) ((written_agrees m a (λ n h. agrees_self (blocks n))).far (atom_of blocks k i) (atom_of blocks l j) (placed_within blocks joins p) (placed_within blocks joins q))

not_outside : {n v : ℕ} → Within n v → is_outside n v ≡ false
not_outside {n} {v} w = rw (ne_eqb v 0 (omega arith), le-ltb n v w.high)

-- THE DISTANCE OVER SUMMARIES FILLED FROM BLOCKS is that of the molecule written out
pub far_written : (b : List ℕ) (book : Book) (xs : List ℕ) → HonestBook b book → assembly_reply book xs ≡ read tt
    → {k i l j : ℕ} → Placed (graph_on book (placement_at xs)) (placement_count xs - 1) k i → Placed (graph_on book (placement_at xs)) (placement_count xs - 1) l j
    → placed_far b xs k i l j ≡ apart (graph_on book (placement_at xs)) (join_on (placement_at xs)) (placement_count xs - 1) k i l j
unfolding placed_far
far_written b book xs h e {k} {i} {l} {j} p q =
    let w = assembly.whole book xs e in
    let u : Within most_placements k = omega (arith, p.number, w.count) in
    let v : Within most_placements l = omega (arith, q.number, w.count) in
    rw (not_outside u, not_outside v)
    (far_keeps (kept_on b xs) (join_on (placement_at xs)) (most_placements - 1) (placement_count xs - 1) (k - 1) i (l - 1) j (omega (arith, w.count)) (omega (arith, p.number)) (omega (arith, q.number))
    ∙ parts_written (assembly.assembled book xs h.molecules w) (λ n g. h.told (placement_at xs n).block (w.right.has n (omega (arith, w.count)))) p q)
