-- Laws. What the reply of an item says of the lines behind M  END: a value where exactly one of them is a header of the name, 38 where none is, 39 where two are. Assumes nothing.
use Rattle.std.specs.Prelude.{ℕ, suc, ◌+◌, ◌-◌, ◌<◌, ◌≤◌, Bool, true, false, cond, List, ◌≡◌, refl, leb, ltb, length, drop}
use Rattle.std.proofs.Common.{true≢false, ◌∙◌, ne_eqb, le-ltb, ltb-true, ltb-false, leb-false}
use Rattle.std.proofs.Math.Path.{sym, ap}
use native.Mathlib.Omega.{arith}
use Rattle.std.proofs.Math.Decide.{ℕ_discrete}
use Rattle.std.proofs.lemmas.Bool.{lt-leb}
use Rattle.reply.specs.Read.{Read, refused, read, ◌then◌, refuse_if, refusal}
use Rattle.reply.specs.Chain.{then-read, if_read, not_read}
use Rattle.reply.specs.declared.Refusal.{Refusal}
use Rattle.text.specs.Text.{next_line, later_line, line_chars}
use Rattle.text.specs.Laws.{next_later, next_within, chars_within}
use Rattle.sdfile.specs.Sdf.{is_header, is_some_header, items_from, header_from, header_one, value_chars, opens_in, most_opens, is_no_name, value_reply, item_reply}
use Rattle.sdfile.specs.Headers.{item_line, HeaderAt, Valued, Twice}
use Rattle.sdfile.specs.Laws.{from_from}
use Rattle.sdfile.specs.Lines.{later_within, later_add, from_holds, from_is_line, none_earlier}
use Rattle.sdfile.specs.declared.Span.{Span}

module _ (d name : List ℕ) where
  items_within : items_from d ≤ length d
  items_within = next_within d _

  first_is : header_one d name < length d → HeaderAt d name (header_one d name)
  first_is h = record { line = from_is_line (is_header name) d (items_from d); inside = h; header = from_holds (is_header name) d (items_from d) h }

  -- none before the first
  first_least : (at : ℕ) → HeaderAt d name at → header_one d name ≤ at
  first_least at x = go (ℕ_discrete (header_one d name - at) 0)
    where
      never : at < header_one d name → ⊥
      never l =
          let (k, e) = x.line in
          let f = none_earlier (is_header name) d k (items_from d) (next_within d _) (omega (arith, e)) in
          true≢false (sym x.header ∙ ap (λ (j : ℕ). is_header name (drop j d)) e ∙ f)

      go : Dec (header_one d name - at ≡ 0) → header_one d name ≤ at
      go (yes z) = omega arith
      go (no z) = absurd (never (omega arith))

  -- a line behind another is one of those from its next line on
  behind_line : (at one : ℕ) → ((k : ℕ) × (at ≡ item_line d k)) → ((m : ℕ) × (one ≡ item_line d m)) → one < at → (j : ℕ) × (at ≡ later_line d (next_line d one) j)
  unfolding later_line
  behind_line at one (k, e) (m, f) l = go (ℕ_discrete (k - m) 0)
    where
      back : k ≤ m → ⊥
      back h =
          let z : k + (m - k) ≡ m = omega arith in
          let w = later_within d (items_from d) k items_within in
          let g = rw z at (later_add d (items_from d) k (m - k)) in
          omega (arith, e, f, g, (later_within d (later_line d (items_from d) k) (m - k) w.1).0)

      go : Dec (k - m ≡ 0) → (j : ℕ) × (at ≡ later_line d (next_line d one) j)
      go (yes z) = absurd (back (omega arith))
      go (no z) =
          let y : suc m + (k - suc m) ≡ k = omega arith in
          (k - suc m, e ∙ rw f (rw y at (later_add d (items_from d) (suc m) (k - suc m))))

  -- where the value stands that is read, and the first header behind the first one
  abbrev pub value_place : ℕ
  value_place = next_line d (header_one d name)

  abbrev pub header_two : ℕ
  header_two = header_from d name value_place

  second_later : header_one d name < length d → header_two < length d → header_one d name < header_two
  second_later h l = omega (arith, next_later d (header_one d name) h, from_from (is_header name) d value_place)

  second_is : header_one d name < length d → header_two < length d → HeaderAt d name header_two
  unfolding later_line
  second_is h l =
      let (m, f) = (first_is h).line in
      let (j, e) = from_is_line (is_header name) d value_place in
      record {
        line = (suc m + j, e ∙ ap (λ (x : ℕ). later_line d (next_line d x) j) f ∙ sym (later_add d (items_from d) (suc m) j));
        inside = l;
        header = from_holds (is_header name) d value_place l;
      }

  -- none between them
  second_least : header_one d name < length d → (at : ℕ) → HeaderAt d name at → header_one d name < at → header_two ≤ at
  second_least h at x l = go (ℕ_discrete (header_two - at) 0)
    where
      never : at < header_two → ⊥
      never b =
          let (j, e) = behind_line at (header_one d name) x.line (first_is h).line l in
          let f = none_earlier (is_header name) d j value_place (next_within d _) (omega (arith, e)) in
          true≢false (sym x.header ∙ ap (λ (i : ℕ). is_header name (drop i d)) e ∙ f)

      go : Dec (header_two - at ≡ 0) → header_two ≤ at
      go (yes z) = omega arith
      go (no z) = absurd (never (omega arith))

-- A VALUE lies within the text
value_within : (d : List ℕ) (at : ℕ) → at ≤ length d → at + value_chars d at ≤ length d
unfolding value_chars
value_within d at h = go (is_some_header (drop at d))
  where
    go : (t : Bool) → at + cond t 0 (line_chars d at) ≤ length d
    go true = omega arith
    go false = chars_within d at h

same_span : {s t : Span} → ◌≡◌ {A = Read Span} (read s) (read t) → s ≡ t
same_span e = cc

valued : (d name : List ℕ) (s : Span) → header_one d name < length d → length d ≤ header_two d name → s ≡ record { start = value_place d name; len = value_chars d (value_place d name) } → Valued d name s
valued d name s h l e = record {
  place = header_one d name;
  there = first_is d name h;
  only = λ at x. go at x (ℕ_discrete at (header_one d name));
  behind = ap (λ (x : Span). x.start) e;
  chars = ap (λ (x : Span). x.len) e ∙ sym (ap (λ (x : Span). value_chars d x.start) e);
  within = omega (arith, ap (λ (x : Span). x.start) e, ap (λ (x : Span). x.len) e, value_within d (value_place d name) (next_within d _));
}
  where
    go : (at : ℕ) → HeaderAt d name at → Dec (at ≡ header_one d name) → at ≡ header_one d name
    go at x (yes z) = z
    go at x (no z) = absurd (omega (arith, x.inside, second_least d name h at x (omega (arith, first_least d name at x))))

pub item_value : (d name : List ℕ) (s : Span) → item_reply d name ≡ read s → Valued d name s
unfolding item_reply value_reply
item_value d name s e =
    let (u, a, f) = then-read (refuse_if (is_no_name name) 38 0) _ e in
    let (v, b, g) = then-read (refuse_if (leb (length d) (header_one d name)) 38 0) _ f in
    let (w, c, h) = then-read (refuse_if (ltb (header_two d name) (length d)) 39 (header_two d name)) _ g in
    let one = leb-false (length d) (header_one d name) (if_read (leb (length d) (header_one d name)) 38 0 b) in
    let two = ltb-false (header_two d name) (length d) (if_read (ltb (header_two d name) (length d)) 39 (header_two d name) c) in
    valued d name s one two (sym (same_span h))

-- a name is some bytes, of which at most so many are <
pub is_name : (name : List ℕ) → (length name ≡ 0 → ⊥) → opens_in name ≤ most_opens → is_no_name name ≡ false
unfolding is_no_name
is_name name n h = rw (ne_eqb (length name) 0 n, le-ltb most_opens (opens_in name) h)

-- and where there is one header only, it is read
pub one_header : (d name : List ℕ) (h : ℕ) → is_no_name name ≡ false → HeaderAt d name h → ((at : ℕ) → HeaderAt d name at → at ≡ h) → item_reply d name ≡ read (record { start = next_line d h; len = value_chars d (next_line d h) })
unfolding item_reply value_reply
one_header d name h n x only =
    let l : header_one d name < length d = omega (arith, first_least d name h x, x.inside) in
    let e = only (header_one d name) (first_is d name l) in
    rw (n, lt-leb (length d) (header_one d name) l, le-ltb (header_two d name) (length d) (go l e (ℕ_discrete (length d - header_two d name) 0)), e)
  where
    go : header_one d name < length d → header_one d name ≡ h → Dec (length d - header_two d name ≡ 0) → length d ≤ header_two d name
    go l e (yes z) = omega arith
    go l e (no z) =
        let t : header_two d name < length d = omega arith in
        absurd (omega (arith, only (header_two d name) (second_is d name l t), second_later d name l t))

-- THE REFUSALS
same_refusal : {r q : Refusal} → ◌≡◌ {A = Read Span} (refused r) (refused q) → r ≡ q
same_refusal e = cc

-- no value is refused with 38, and with 39 at its place only
value_refused : (t : Bool) (p : ℕ) (s : Span) (r : Refusal) → ◌≡◌ {A = Read Span} (refuse_if t 39 p then λ _. read s) (refused r) → (t ≡ true) × (r.number ≡ 39) × (r.place ≡ p)
value_refused true p s r e = let f = same_refusal (sym e) in (refl, ap (λ (q : Refusal). q.number) f, ap (λ (q : Refusal). q.place) f)
value_refused false p s r e = absurd (not_read (sym e))

pub item_none : (d name : List ℕ) → item_reply d name ≡ refused (refusal 38 0) → is_no_name name ≡ false → (at : ℕ) → HeaderAt d name at → ⊥
unfolding item_reply value_reply
item_none d name e n at x =
    let l : header_one d name < length d = omega (arith, first_least d name at x, x.inside) in
    let f = rw (n, lt-leb (length d) (header_one d name) l) at e in
    let (t, a, b) = value_refused (ltb (header_two d name) (length d)) (header_two d name) _ (refusal 38 0) f in
    omega (arith, a)

pub item_twice : (d name : List ℕ) (at : ℕ) → item_reply d name ≡ refused (refusal 39 at) → Twice d name at
unfolding item_reply value_reply
item_twice d name at e = named (is_no_name name) (leb (length d) (header_one d name)) refl e
  where
    twice : header_one d name < length d → header_two d name < length d → at ≡ header_two d name → Twice d name at
    twice l m f = rw f (record {
      one = header_one d name;
      before = second_later d name l m;
      there = first_is d name l;
      again = second_is d name l m;
      none_first = first_least d name;
      none_between = second_least d name l;
    })

    other : (p : ℕ) → ◌≡◌ {A = Read Span} (refused (refusal 38 p)) (refused (refusal 39 at)) → ⊥
    other p f = let z : ◌≡◌ {A = ℕ} 38 39 = ap (λ (q : Refusal). q.number) (same_refusal f) in omega arith

    named : (s t : Bool) → leb (length d) (header_one d name) ≡ t
        → ◌≡◌ {A = Read Span} (refuse_if s 38 0 then λ _. refuse_if t 38 0 then λ _. value_reply d name (value_place d name)) (refused (refusal 39 at))
        → Twice d name at
    named true t q f = absurd (other 0 f)
    named false true q f = absurd (other 0 f)
    named false false q f =
        let (t, a, b) = value_refused (ltb (header_two d name) (length d)) (header_two d name) _ (refusal 39 at) f in
        twice (leb-false (length d) (header_one d name) q) (ltb-true (header_two d name) (length d) t) b
