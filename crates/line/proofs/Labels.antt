-- What `label` promises, from its two words put one behind the other, and where there is no room for them.
use Prim.Native.Nat.{ℕ, ◌≤◌, ◌<◌}
use mathlib.Core.Path.{◌≡◌, refl, sym, ap₂, ◌∙◌}
use mathlib.Core.List.{List, ◌++◌}
use native.Mathlib.Omega.{arith}
use lib.ListN.{length, take, drop}
use lib.Seq.{paste, length-take-le}
use borrow.Author.Tests.{le-leb, lt-leb}
use Rattle.io.specs.Counts.{IsPrefixLen}
use Rattle.line.specs.Label.{colon, label_end, has_room, label_reply, labelled}
use Rattle.text.specs.Put.{Puts}
use Rattle.line.specs.Put.{Pasted}
use Rattle.line.proofs.Lines.{pasted, paste_twice}

abbrev Promise : List ℕ → ℕ → List ℕ → List ℕ → ℕ → Type 0
Promise out n words after r = (r ≡ label_reply out n words) × ((after ≡ labelled out n words) × IsPrefixLen r after)

pub label_put : (out : List ℕ) (n : ℕ) (words middle after : List ℕ) (at r : ℕ) → label_end n words ≤ length out → length middle ≡ length out → length after ≡ length out
    → Puts out n colon middle at → Puts middle at words after r → Promise out n words after r
unfolding has_room
label_put out n words middle after at r room same same' first second =
    let p : Pasted out n colon middle at = pasted first (omega arith) in
    let q : Pasted middle at words after r = pasted second (omega (arith, p.end)) in
    let end : r ≡ label_end n words = omega (arith, p.end, q.end) in
    let text : after ≡ take n out ++ (colon ++ words) ++ drop (label_end n words) out =
    q.text ∙ ap₂ (λ (d : List ℕ) (k : ℕ). paste d k words (length words)) p.text p.end ∙ paste_twice out colon words n (omega arith) in
    rw (le-leb (label_end n words) (length out) room) (end, (text, (omega arith, sym (length-take-le r after (omega arith)))))

pub label_none : (out : List ℕ) (n : ℕ) (words : List ℕ) → length out < label_end n words → Promise out n words out 0
unfolding has_room
label_none out n words full = rw (lt-leb (label_end n words) (length out) full) (refl, (refl, (omega arith, refl)))
