-- Laws. The value of an item, test by test. Assumes nothing.
use Prim.Native.Nat.{ℕ, ◌+◌, ◌<◌, ◌≤◌}
use mathlib.Core.Bool.{true, false, cond}
use mathlib.Core.List.{List}
use mathlib.Core.Path.{◌≡◌, refl, sym, ◌∙◌, ap, subst}
use denote.Ref.{Bor}
use native.Mathlib.Omega.{arith}
use borrow.Author.Tests.{eq-eqb, ne_eqb, lt-ltb, le-ltb, le-leb, lt-leb}
use native.Mathlib.Numerals.{add-one}
use lib.Dec.{eqb, ltb}
use lib.ListN.{length, get_or, drop, drop_of_length-le}
use lib.Seq.{drop-cons}
use Rattle.reply.specs.Read.{Read, refused, read, refusal, as_result}
use Rattle.reply.specs.declared.Refusal.{Refusal}
use Rattle.records.specs.Bytes.{PartOf}
use Rattle.text.specs.Text.{until_feed, line_end, starts_with, next_line, line_chars}
use Rattle.molfile.specs.Molfile.{end_word, rest_of}
use Rattle.sdfile.specs.Sdf.{line_from, items_from, is_some_header, header_from, header_one, value_chars, opens, opens_in, most_opens, is_no_name, value_reply, item_reply}
use Rattle.sdfile.specs.Said.{span_of}
use Rattle.sdfile.specs.declared.Span.{Span}
use Rattle.std.specs.Prelude.{Ok, Err}

module _ (d name : List ℕ) (at h : ℕ) (is : h ≡ header_from d name at) where
  pub value_twice : h < length d → value_reply d name at ≡ refused (refusal 39 h)
  unfolding value_reply
  value_twice l = rw (← is, lt-ltb h (length d) l)

  pub value_once : length d ≤ h → (n : ℕ) → n ≡ value_chars d at → value_reply d name at ≡ read (record { start = at; len = n })
  unfolding value_reply
  value_once l n e = rw (← is, le-ltb h (length d) l, ← e)

pub items_begin : (d : List ℕ) (a e i : ℕ) → a ≡ rest_of d → e ≡ line_from (starts_with end_word) d a → i ≡ next_line d e → i ≡ items_from d
items_begin d a e i o p q = q ∙ ap (next_line d) (p ∙ ap (line_from (starts_with end_word) d) o)

-- the characters of a value
pub value_missing : (d : List ℕ) (at : ℕ) → length d ≤ at → 0 ≡ value_chars d at
unfolding value_chars line_chars line_end until_feed is_some_header starts_with
value_missing d at h = rw (drop_of_length-le d {i = at} h) (omega arith)

pub value_header : (d : List ℕ) (at : ℕ) → is_some_header (drop at d) ≡ true → 0 ≡ value_chars d at
unfolding value_chars
value_header d at e = rw e

pub value_line : (d : List ℕ) (at n : ℕ) → is_some_header (drop at d) ≡ false → n ≡ line_chars d at → n ≡ value_chars d at
unfolding value_chars
value_line d at n e q = rw e q

module _ (d name : List ℕ) where
  pub item_no_name : is_no_name name ≡ true → item_reply d name ≡ refused (refusal 38 0)
  unfolding item_reply
  item_no_name e = rw e

  module _ (n : is_no_name name ≡ false) (h : ℕ) (is : h ≡ header_one d name) where
    pub item_none : length d ≤ h → item_reply d name ≡ refused (refusal 38 0)
    unfolding item_reply
    item_none l = rw (n, ← is, le-leb (length d) h l)

    pub item_there : h < length d → (v : ℕ) → v ≡ next_line d h → item_reply d name ≡ value_reply d name v
    unfolding item_reply
    item_there l v e = rw (n, ← is, lt-leb (length d) h l, ← e)

-- counting < byte by byte
module _ (xs : List ℕ) where
  pub opens_end : (i k : ℕ) → length xs ≤ i → k + opens_in (drop i xs) ≡ opens_in xs → k ≡ opens_in xs
  unfolding opens_in
  opens_end i k h e = let f = rw (drop_of_length-le xs {i = i} h) at e in omega (arith, f)

  pub opens_next : (i k n : ℕ) → i < length xs → k + opens_in (drop i xs) ≡ opens_in xs → n ≡ cond (eqb (get_or xs i 0) opens) 1 0 → k + n + opens_in (drop (i + 1) xs) ≡ opens_in xs
  unfolding opens_in
  opens_next i k n h e f = let g = rw (drop-cons xs i 0 h) at e in rw (add-one i) (omega (arith, f, g))

pub no_name_empty : (name : List ℕ) → length name ≡ 0 → is_no_name name ≡ true
unfolding is_no_name
no_name_empty name e = rw (eq-eqb (length name) 0 e)

pub no_name_many : (name : List ℕ) → (length name ≡ 0 → ⊥) → is_no_name name ≡ ltb most_opens (opens_in name)
unfolding is_no_name
no_name_many name n = rw (ne_eqb (length name) 0 n)

-- the part that is the value, by what is replied
abbrev nothing : Span
nothing = record { start = 0; len = 0 }

pub span_refused : (x : Read Span) {q : Refusal} → Err q ≡ as_result x → span_of x ≡ nothing
span_refused (refused r) e = refl
span_refused (read s) e = let z : ◌≡◌ {A = ℕ} 0 1 = cc in absurd (omega arith)

pub span_read : (x : Read Span) {s : Span} → Ok s ≡ as_result x → span_of x ≡ s
span_read (refused r) e = let z : ◌≡◌ {A = ℕ} 0 1 = cc in absurd (omega arith)
span_read (read t) e = cc

pub part_at : {s r : Bor (List ℕ)} {a b : Span} → b ≡ a → PartOf s a.start a.len r → PartOf s b.start b.len r
part_at {s} {r} e p = subst (λ (x : Span). PartOf s x.start x.len r) (sym e) p

-- one byte
pub opening_is : (b : ℕ) → b ≡ opens → ◌≡◌ {A = ℕ} 1 (cond (eqb b opens) 1 0)
opening_is b e = rw (eq-eqb b opens e)

pub opening_not : (b : ℕ) → (b ≡ opens → ⊥) → ◌≡◌ {A = ℕ} 0 (cond (eqb b opens) 1 0)
opening_not b e = rw (ne_eqb b opens e)
