-- Work. The headers of a name among the lines behind M  END, and what a reply says of them.
use Rattle.std.specs.Prelude.{ℕ, ◌+◌, ◌<◌, ◌≤◌, true, List, ◌≡◌, length, drop}
use Rattle.text.specs.Text.{next_line, later_line}
use Rattle.sdfile.specs.Sdf.{is_header, items_from, value_chars}
use Rattle.sdfile.specs.declared.Span.{Span}

-- the k-th line behind M  END, and whether it is a header of a name
abbrev pub item_line : List ℕ → ℕ → ℕ
item_line d k = later_line d (items_from d) k

pub record HeaderAt (d name : List ℕ) (at : ℕ) : Type 0 where
  pub line : (k : ℕ) × (at ≡ item_line d k)
  pub inside : at < length d
  pub header : is_header name (drop at d) ≡ true

-- a value: the line behind the only header, or nothing where that is a header
pub record Valued (d name : List ℕ) (s : Span) : Type 0 where
  pub place : ℕ
  pub there : HeaderAt d name place
  pub only : (at : ℕ) → HeaderAt d name at → at ≡ place
  pub behind : s.start ≡ next_line d place
  pub chars : s.len ≡ value_chars d s.start
  pub within : s.start + s.len ≤ length d

-- two headers: at is the second one
pub record Twice (d name : List ℕ) (at : ℕ) : Type 0 where
  pub one : ℕ
  pub before : one < at
  pub there : HeaderAt d name one
  pub again : HeaderAt d name at
  pub none_first : (k : ℕ) → HeaderAt d name k → one ≤ k
  pub none_between : (k : ℕ) → HeaderAt d name k → one < k → at ≤ k
