-- Laws. A refusal writes nothing: where a C function replies anything but 0, and where a public function refuses, what was lent is as it was. Assumes nothing.
use Rattle.std.specs.Prelude.{ℕ, List, ◌++◌, ◌≡◌, refl, length, take, drop}
use Rattle.std.proofs.Common.{◌∙◌, ap, take-append-drop}
use Rattle.reply.specs.Read.{Read, refused, read, ◌then◌}
use Rattle.reply.specs.declared.Refusal.{Refusal}
use Rattle.block.specs.Block.{block_reply}
use Rattle.block.specs.Rows.{far_of, half_table, unless_refused, half_after, far_after}
use Rattle.block.specs.declared.Indices.{Indices}
use Rattle.records.specs.declared.Sheet.{Sheet}
use Rattle.shares.specs.Reply.{shares_reply, shares_entries}
use Rattle.shares.specs.Examples as shares
use Rattle.szeged.specs.Reply.{szeged_reply, filled_terms, szeged_entries}
use Rattle.molfile.specs.Molfile.{lines_reply, molfile_reply}
use Rattle.molfile.specs.Said.{filled_bonds, molfile_bytes, kept_numbers}
use Rattle.wholefile.specs.Whole.{whole_file_reply}
use Rattle.wholefile.specs.Said.{whole_numbers}
use Rattle.molwriter.specs.Written.{molfile_write_reply, filled_text, written_bytes}
use Rattle.adjacency.specs.Neighbours.{bytes_after}
use Rattle.adjacency.specs.Written.{text_after}
use Rattle.queues.specs.Shelf.{unless, add_reply, added, drop_reply, dropped}
use Rattle.queues.specs.Table.{shelf_bytes, shelf, with_shelf, table_reply, zeroed, emptied}
use Rattle.queues.specs.declared.Queue.{Queue}
use Rattle.queues.specs.declared.Queue.TheVariants.{Day, Night}
use Rattle.summary.specs.Layout.{summary_bytes}
use Rattle.queues.specs.Queues.{own_places, add_told, table_added, drop_told, table_dropped}
use Rattle.judging.specs.Judging.{sheet_out}
use Rattle.whole.specs.Whole.{numbers_after}
use Rattle.catalogue.specs.Products.{Product, done, made}
use Rattle.library.specs.Steps.{step_out}
use Rattle.library.specs.Values.{values_out}
use Rattle.placing.specs.Ranked.{Entry}
use Rattle.ranking.specs.Best.{best_out}
use Rattle.calls.specs.Convention.{coded, fitting, out_after, Lent}
use Rattle.calls.specs.Beside.{Beside}
use Rattle.library_calls.specs.Libraries.{with_next, step_code, made_out, Walked}
use Rattle.ranking_calls.specs.Ranks.{held_out, Ranks}

-- C: numbers lent out
out_kept : {A : Type 0} (x : Read (List A)) (old : List A) → (coded x ≡ 0 → ⊥) → out_after x old ≡ old
out_kept (refused r) old not = refl
out_kept (read xs) old not = absurd (not refl)

pub lent_unchanged : {A : Type 0} (answer : Read (List A)) (old new : List A) (reply : ℕ) → Lent answer old reply new → (reply ≡ 0 → ⊥) → new ≡ old
lent_unchanged answer old new reply l not = l.lent ∙ out_kept (fitting (length old) answer) old (λ e. not (l.replied ∙ e))

-- two outputs
one_kept : {A B : Type 0} (x : Read A) (f : A → List B) (old : List B) → (coded x ≡ 0 → ⊥) → out_after (x then λ a. read (f a)) old ≡ old
one_kept (refused r) f old not = refl
one_kept (read a) f old not = absurd (not refl)

pub beside_unchanged : {A B C : Type 0} (answer : Read A) (one : A → List B) (two : A → List C) (old old' : List B) (more more' : List C) (reply : ℕ)
    → Beside answer one two old more reply old' more' → (reply ≡ 0 → ⊥) → (old' ≡ old) × (more' ≡ more)
beside_unchanged answer one two old old' more more' reply b not =
    let fails : coded answer ≡ 0 → ⊥ = λ e. not (b.replied ∙ e) in
    (b.first ∙ one_kept answer one old fails, b.second ∙ one_kept answer two more fails)

-- steps and runs of a library; done writes nothing either
made_kept : (x : Read Product) (new old : List ℕ) → (step_code x ≡ 0 → ⊥) → made_out new x old ≡ old
made_kept (refused r) new old not = refl
made_kept (read done) new old not = refl
made_kept (read (made x)) new old not = absurd (not refl)

pub walked_unchanged : (answer : Read Product) (wrote : List ℕ) (position : ℕ) (out next out' next' : List ℕ) (reply : ℕ)
    → Walked answer wrote position out next reply out' next' → (reply ≡ 0 → ⊥) → (out' ≡ out) × (next' ≡ next)
walked_unchanged answer wrote position out next out' next' reply w not =
    let fails : step_code (with_next (length next) answer) ≡ 0 → ⊥ = λ e. not (w.replied ∙ e) in
    (w.written ∙ made_kept (with_next (length next) answer) wrote out fails, w.told ∙ made_kept (with_next (length next) answer) _ next fails)

-- a ranking
best_kept : (x : Read (List Entry)) (best held : List ℕ) → (coded x ≡ 0 → ⊥) → (best_out best x ≡ best) × (held_out x held ≡ held)
best_kept (refused r) best held not = (refl, refl)
best_kept (read l) best held not = absurd (not refl)

pub ranks_unchanged : (answer : Read (List Entry)) (best held best' held' : List ℕ) (reply : ℕ) → Ranks answer best held reply best' held' → (reply ≡ 0 → ⊥) → (best' ≡ best) × (held' ≡ held)
ranks_unchanged answer best held best' held' reply r not =
    let k = best_kept answer best held (λ e. not (r.replied ∙ e)) in
    (r.entries ∙ k.0, r.many ∙ k.1)

-- a sheet, of a deck or of a queue
pub sheet_unchanged : (s : Sheet) (out : List ℕ) (answer : Read Indices) → (coded answer ≡ 0 → ⊥) → sheet_out s out answer ≡ out
sheet_unchanged s out (refused r) not = refl
sheet_unchanged s out (read x) not = absurd (not refl)

-- the queues' table
pub empty_unchanged : (t : List ℕ) → (coded (table_reply summary_bytes t) ≡ 0 → ⊥) → emptied summary_bytes t ≡ t
empty_unchanged t = go (zeroed summary_bytes t) (table_reply summary_bytes t)
  where
    go : (new : List ℕ) (x : Read (Unit {0})) → (coded x ≡ 0 → ⊥) → unless x t new ≡ t
    go new (refused r) not = refl
    go new (read u) not = absurd (not refl)

same_shelf : (q : Queue) (t : List ℕ) → with_shelf summary_bytes q t (shelf summary_bytes q t) ≡ t
same_shelf Day t = take-append-drop (shelf_bytes summary_bytes) t
same_shelf Night t =
    ap (λ (l : List ℕ). take (shelf_bytes summary_bytes) t ++ l) (take-append-drop (shelf_bytes summary_bytes) (drop (shelf_bytes summary_bytes) t))
    ∙ take-append-drop (shelf_bytes summary_bytes) t

-- what a call of a queue that is refused leaves: x is said of the table, y of the call
shelf_kept : (q : Queue) (t new : List ℕ) (x y : Read (Unit {0})) → (coded (x then λ _. y) ≡ 0 → ⊥) → unless x t (with_shelf summary_bytes q t (unless y (shelf summary_bytes q t) new)) ≡ t
shelf_kept q t new (refused r) y not = refl
shelf_kept q t new (read u) (refused r) not = same_shelf q t
shelf_kept q t new (read u) (read v) not = absurd (not refl)

pub add_unchanged : (t : List ℕ) (q : Queue) (x n : ℕ) (bs : List ℕ) → (coded (add_told t q x n bs) ≡ 0 → ⊥) → table_added t q x n bs ≡ t
unfolding added
add_unchanged t q x n bs = shelf_kept q t _ (table_reply summary_bytes t) (add_reply summary_bytes (own_places t q) x (block_reply n bs))

pub drop_unchanged : (t : List ℕ) (q : Queue) (x : ℕ) → (coded (drop_told t q x) ≡ 0 → ⊥) → table_dropped t q x ≡ t
unfolding dropped
drop_unchanged t q x = shelf_kept q t _ (table_reply summary_bytes t) (drop_reply summary_bytes (own_places t q) x)

-- The functions below C. A block's distances:
pub table_unchanged : (n : ℕ) (xs half far : List ℕ) (r : Refusal) → block_reply n xs ≡ refused r → (half_after n xs half ≡ half) × (far_after n xs far ≡ far)
table_unchanged n xs half far r e = (ap (λ (x : Read (Unit {0})). unless_refused x half (half_table n xs)) e, ap (λ (x : Read (Unit {0})). unless_refused x far (far_of n xs)) e)

-- contributions and Szeged terms (a block's summary: `refusal_keeps`, filling)
pub shares_unchanged : (n : ℕ) (xs out : List ℕ) (r : Refusal) → shares_reply n xs (length out) ≡ refused r → shares_entries n xs out ≡ out
shares_unchanged n xs = shares.refusal_keeps n xs

pub terms_unchanged : (n : ℕ) (xs out : List ℕ) (r : Refusal) → szeged_reply n xs (length out) ≡ refused r → szeged_entries n xs out ≡ out
unfolding filled_terms
terms_unchanged n xs out r e = rw e

-- texts, read and written
bonds_kept : (x : Read (Unit {0})) (xs out : List ℕ) (r : Refusal) → x ≡ refused r → filled_bonds x xs out ≡ out
unfolding filled_bonds
bonds_kept x xs out r e = rw e

pub molfile_unchanged : (d out : List ℕ) (r : Refusal) → molfile_reply d (length out) ≡ refused r → molfile_bytes d out ≡ out
molfile_unchanged d out r e = bonds_kept (molfile_reply d (length out)) _ out r e

pub kept_unchanged : (d out : List ℕ) (r : Refusal) → lines_reply d ≡ refused r → kept_numbers d out ≡ out
kept_unchanged d out r e = bonds_kept (lines_reply d) _ out r e

pub whole_unchanged : (d out : List ℕ) (r : Refusal) → whole_file_reply d (length out) ≡ refused r → whole_numbers d out ≡ out
whole_unchanged d out r e = bonds_kept (whole_file_reply d (length out)) _ out r e

pub written_unchanged : (n : ℕ) (xs out : List ℕ) (r : Refusal) → molfile_write_reply n xs (length out) ≡ refused r → written_bytes n xs out ≡ out
unfolding filled_text
written_unchanged n xs out r e = rw e

pub text_unchanged : (out : List ℕ) (r : Refusal) → (bytes_after (refused r) out ≡ out) × (text_after (refused r) out ≡ out)
text_unchanged out r = (refl, refl)

-- a molecule written out, a step and a row of values of a library, a ranking
pub numbers_unchanged : (out : List ℕ) (r : Refusal) → numbers_after (refused r) out ≡ out
unfolding numbers_after
numbers_unchanged out r = refl

pub library_unchanged : (s : Sheet) (out : List ℕ) (r : Refusal) → (step_out s out (refused r) ≡ out) × (step_out s out (read done) ≡ out) × (values_out out (refused r) ≡ out) × (best_out out (refused r) ≡ out)
library_unchanged s out r = (refl, refl, refl, refl)
