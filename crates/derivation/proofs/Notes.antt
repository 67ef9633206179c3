-- The notes of a walk that comes to its end say of each step whether it is idle where it stands.
use Prim.Native.Nat.{ℕ, zero, suc, ◌+◌, ◌≤◌, ◌<◌}
use mathlib.Core.Path.{◌≡◌, refl, sym, ap, ◌∙◌}
use mathlib.Core.Bool.{Bool, true, false}
use mathlib.Core.List.{List, ◌++◌, append_assoc, append-nil}
use mathlib.Core.Option.{some}
use native.Mathlib.Omega.{arith}
use lib.ListN.{length, length-set, set}
use lib.Seq.{get_or-set_same, get_or-set_other}
use Rattle.circuit.specs.Bytes.{u16_at}
use Rattle.circuit.specs.Answer.{given}
use Rattle.circuit.proofs.AnswerLaws.{next_given}
use Rattle.laws.specs.Problem.{Problem}
use Rattle.laws.specs.Standing.{Standing}
use Rattle.laws.specs.Step.{Step, is_idle, after, unless, less_idle}
use Rattle.derivation.specs.Steps.{read_step, tried, walk_from, steps_from, steps_of}
use Rattle.derivation.specs.Inner.{unnoted, unflagged, notes_from, Noted}
use Rattle.derivation.proofs.Walks.{tried_given, steps_known}

unflagged_kept : (notes : List Bool) (d : List ℕ) (k j : ℕ) (b : Bool) → j ≤ k → unflagged (set notes k b) d j ≡ unflagged notes d j
unfolding unflagged
unflagged_kept notes d k zero b h = refl
unflagged_kept notes d k (suc j) b h =
    rw (unflagged_kept notes d k j b (omega arith), get_or-set_other notes k j b false (λ (e : j ≡ k). omega arith))

-- one note more
unflagged_more : (notes : List Bool) (d : List ℕ) (k : ℕ) (b : Bool) {x : Step} → read_step d k ≡ some x → k < length notes
    → unflagged (set notes k b) d (suc k) ≡ unflagged notes d k ++ unnoted b (some x)
unfolding unflagged
unflagged_more notes d k b known h = rw (known, unflagged_kept notes d k k b (omega arith), get_or-set_same notes k b false h)

unless_noted : (b : Bool) (x : Step) (rest : List Step) → unless b x rest ≡ unnoted b (some x) ++ rest
unless_noted true x rest = refl
unless_noted false x rest = refl

-- a step that isn't refused is noted
notes_on : (padded : Bool) (P : Problem) (d : List ℕ) (k left : ℕ) (S : Standing) {S' : Standing} (notes : List Bool) {x : Step} → read_step d k ≡ some x
    → tried padded P S (read_step d k) (suc k) ≡ given S'
    → notes_from padded P d k (suc left) S notes ≡ notes_from padded P d (suc k) left S' (set notes k (is_idle P S x))
unfolding notes_from
notes_on padded P d k left S notes known goes = rw (goes, known)

-- the notes of the steps from k on, after those of the steps before k
notes_tell : (padded : Bool) (P : Problem) (d : List ℕ) (k left : ℕ) (S S' : Standing) (notes : List Bool) → walk_from padded P d k left S ≡ given S'
    → k + left ≤ length notes
    → unflagged (notes_from padded P d k left S notes) d (k + left) ≡ unflagged notes d k ++ less_idle P S (steps_from d k left)
unfolding walk_from notes_from steps_from less_idle
notes_tell padded P d k zero S S' notes e room = let z : k + 0 ≡ k = omega arith in rw z (sym (append-nil (unflagged notes d k)))
notes_tell padded P d k (suc left) S S' notes e room =
    let N = next_given (tried padded P S (read_step d k) (suc k)) (walk_from padded P d (suc k) left) e in
    let T = tried_given padded P S (read_step d k) (suc k) N.first in
    let x = T.step in
    let b = is_idle P S x in
    let rest = less_idle P (after P S x) (steps_from d (suc k) left) in
    let later = notes_tell padded P d (suc k) left (after P S x) S' (set notes k b) (rw T.gives N.then) (omega (arith, length-set notes k b)) in
    let z : k + suc left ≡ suc k + left = omega arith in
    rw (notes_on padded P d k left S notes T.known (N.first ∙ ap given (sym T.gives)), steps_known d k left T.known, z)
    (later ∙ ap (λ l. l ++ rest) (unflagged_more notes d k b T.known (omega arith))
    ∙ append_assoc (unflagged notes d k) (unnoted b (some x)) rest
    ∙ sym (ap (λ l. unflagged notes d k ++ l) (unless_noted b x rest)))

-- .. and so those of all steps
pub notes_told : (padded : Bool) (P : Problem) (d : List ℕ) (S S' : Standing) (notes : List Bool) → walk_from padded P d 0 (u16_at d 5) S ≡ given S'
    → Noted P S d (length notes) (notes_from padded P d 0 (u16_at d 5) S notes)
unfolding unflagged steps_of
notes_told padded P d S S' notes e =
    let z : 0 + u16_at d 5 ≡ u16_at d 5 = omega arith in
    record { tells = λ room. rw z at (notes_tell padded P d 0 (u16_at d 5) S S' notes e (omega (arith, room))) }
