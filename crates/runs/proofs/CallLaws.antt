-- Laws of the two calls: each refusal and the way past it, and the answer of the search that follows.
use Prim.Native.Nat.{ℕ, zero, suc, ◌^◌, ◌≤◌, ◌<◌}
use mathlib.Core.Path.{◌≡◌, refl, sym, ap, ◌∙◌}
use mathlib.Core.Bool.{Bool, true, false}
use mathlib.Core.List.{List, []}
use mathlib.Core.Option.{none}
use native.Mathlib.Omega.{arith}
use borrow.Author.Tests.{eq-eqb, ne_eqb, leb-true, ltb-true, eqb-true}
use lib.Dec.{eqb}
use lib.ListN.{length}
use Rattle.std.specs.Prelude.{None, Some, Ok}
use Rattle.circuit.specs.Circuit.{value_of}
use Rattle.circuit.specs.Runs.{first_from, found}
use Rattle.circuit.specs.Answer.{Answer, refused, given, ask, ask_none, and_then}
use Rattle.circuit.specs.Call.{circuit_call, circuit_of, Sized}
use Rattle.circuit.specs.declared.reader.Sizes.{Sizes}
use Rattle.circuit.proofs.AnswerLaws.{ask_given}
use Rattle.circuit.proofs.SearchLaws.{passed}
use Rattle.circuit.proofs.Sized.{call_sized, on_sized, on_refused}
use Rattle.runs.specs.Call.{Found, first_run, next_run, few, fits, first_on, next_on, first_call, next_call}
use Rattle.runs.specs.Listed.{EachBelow, IsLeast, Later, FirstAnswer, NextAnswer, ListedAnswer}
use Rattle.runs.specs.Answer.{paper_of, run_answer}
use Rattle.runs.specs.Inner.{Candidate, Rose, Ended, roomy, Seeks, Answers}
use Rattle.runs.proofs.CountLaws.{few_signals, small_prime}
use Rattle.runs.proofs.SearchLaws.{rose_candidate}
use Rattle.runs.proofs.Listed.{first_least, next_least, first_answer, next_answer, listed_answer}
use Rattle.runs.proofs.SeekLaws as seek
use Rattle.runs.proofs.SeekLaws.{answers_by}

-- a refusal writes nothing
refused_answers : {call : Answer Found} (answer : List ℕ) {number place : ℕ} → call ≡ refused number place
    → Answers call answer (refused number place) answer
refused_answers answer f = rw f (answers_by refl refl)

-- the tests of both calls, and then what is asked after them
asked : {A B : Type 0} (x : A) (b c : Bool) (r : Answer B) → and_then (ask b 30 0 (ask c 31 0 (given x))) (λ y. r) ≡ ask b 30 0 (ask c 31 0 r)
asked x true true r = refl
asked x true false r = refl
asked x false c r = refl

-- two tests with one refusal, in either order
ask_swap : {A : Type 0} (b c : Bool) (number place : ℕ) (r : Answer A)
    → ask b number place (ask c number place r) ≡ ask c number place (ask b number place r)
ask_swap true c number place r = refl
ask_swap false true number place r = refl
ask_swap false false number place r = refl

-- what a search found, by the option
refused_at : {A : Type 0} (z k number : ℕ) (r : Answer A) → Some k ≡ found z → ask_none z number 0 r ≡ refused number k
refused_at zero k number r e = absurd cc
refused_at (suc z) k number r e = let same : k ≡ suc z = cc in rw same (ap (refused number) (omega arith))

found_none : (z : ℕ) → None ≡ found z → z ≡ 0
found_none zero e = refl
found_none (suc z) e = absurd cc

-- ---- on a circuit that isn't refused

module _ (s : List ℕ) {z : Sizes} (read : given z ≡ circuit_call s) where
  abbrev Z : Sized s z
  Z = call_sized (sym read)

  positive : 0 < (circuit_of s).p
  positive = omega (arith, Z.formed.p_least)

  -- at most 65,536 candidates, and a buffer with room for a run
  module _ (room : ℕ) (e : given tt ≡ roomy z room) where
    pub few_here : z.n ≤ 10
    unfolding roomy few
    few_here =
        let small = ask_given (few z.p z.n) 30 0 _ (sym e) in
        few_signals (omega (arith, Z.is_p, Z.formed.p_least)) (leb-true (z.p ^ z.n) 65536 small.0)

    pub small_here : z.p ≤ 65536
    unfolding roomy few
    small_here =
        let small = ask_given (few z.p z.n) 30 0 _ (sym e) in
        small_prime (omega (arith, Z.is_p, Z.formed.p_least)) (omega (arith, Z.is_n, Z.formed.n_least)) (leb-true (z.p ^ z.n) 65536 small.0)

    pub room_here : room ≡ z.n
    unfolding roomy
    room_here = let small = ask_given (few z.p z.n) 30 0 _ (sym e) in eqb-true room z.n (ask_given (eqb room z.n) 31 0 _ small.1).0

  pub start_here : Candidate z.p z.n (value_of [])
  start_here = seek.start_candidate z.p z.n (omega (arith, Z.is_p, Z.formed.p_least))

  -- ---- the first-run call

  first_by : (room : ℕ) → first_call s room ≡ and_then (roomy z room) (λ x. given (first_run (circuit_of s)))
  unfolding first_call first_on roomy
  first_by room =
      rw (Z.is_p, Z.is_n, on_sized (λ C. first_on C room) Z) (sym (asked tt (few (circuit_of s).p (circuit_of s).n) (eqb room (circuit_of s).n) _))

  pub first_narrow : (answer : List ℕ) {number place : ℕ} → refused number place ≡ roomy z (length answer)
      → Answers (first_call s (length answer)) answer (refused number place) answer
  first_narrow answer e = refused_answers answer (rw (first_by (length answer), ← e) refl)

  pub first_found : (answer : List ℕ) → given tt ≡ roomy z (length answer) → {found : Bool} {left : List ℕ}
      → Seeks (circuit_of s) (value_of []) answer found left
      → Answers (first_call s (length answer)) answer (paper_of (run_answer (Ok found)) left) left
  first_found answer e S =
      rw (first_by (length answer), ← e) (seek.first_answers positive (first_least (circuit_of s) positive) S)

  -- ---- the next-run call

  module _ (run : List ℕ) where
    next_by : (room : ℕ) → next_call s run room
        ≡ and_then (roomy z room) (λ x. ask (eqb (length run) z.n) 31 0 (ask_none (first_from (fits z.p run) 1 z.n) 31 0 (given (next_run (circuit_of s) run))))
    unfolding next_call next_on roomy
    next_by room =
        rw (Z.is_p, Z.is_n, on_sized (λ C. next_on C run room) Z)
        (ap (ask (few (circuit_of s).p (circuit_of s).n) 30 0) (ask_swap (eqb (length run) (circuit_of s).n) (eqb room (circuit_of s).n) 31 0 _)
        ∙ sym (asked tt (few (circuit_of s).p (circuit_of s).n) (eqb room (circuit_of s).n) _))

    pub next_narrow : (answer : List ℕ) {number place : ℕ} → refused number place ≡ roomy z (length answer)
        → Answers (next_call s run (length answer)) answer (refused number place) answer
    next_narrow answer e = refused_answers answer (rw (next_by (length answer), ← e) refl)

    module _ (room : ℕ) (e : given tt ≡ roomy z room) where
      next_roomy : next_call s run room
          ≡ ask (eqb (length run) z.n) 31 0 (ask_none (first_from (fits z.p run) 1 z.n) 31 0 (given (next_run (circuit_of s) run)))
      next_roomy = rw (next_by room, ← e) refl

      next_fit : length run ≡ z.n → next_call s run room ≡ ask_none (first_from (fits z.p run) 1 z.n) 31 0 (given (next_run (circuit_of s) run))
      next_fit sized = rw (next_roomy, eq-eqb (length run) z.n sized) refl

    pub next_short : (answer : List ℕ) → given tt ≡ roomy z (length answer) → (length run ≡ z.n → ⊥)
        → Answers (next_call s run (length answer)) answer (refused 31 0) answer
    next_short answer e d = refused_answers answer (rw (next_roomy (length answer) e, ne_eqb (length run) z.n d) refl)

    module _ (sized : length run ≡ z.n) where
      pub next_unfit : (answer : List ℕ) → given tt ≡ roomy z (length answer) → (unfit : ℕ) → Some unfit ≡ found (first_from (fits z.p run) 1 (length run))
          → Answers (next_call s run (length answer)) answer (refused 31 unfit) answer
      next_unfit answer e unfit f = refused_answers answer (next_fit (length answer) e sized ∙ refused_at _ unfit 31 _ (rw sized at f))

      -- the run is one of n values below p
      module _ (fit : None ≡ found (first_from (fits z.p run) 1 (length run))) where
        none_unfit : first_from (fits z.p run) 1 z.n ≡ 0
        none_unfit = found_none _ (rw sized at fit)

        below : EachBelow z.p z.n run
        unfolding fits
        below t l m = ltb-true (value_of run t) z.p (passed (fits z.p run) z.n none_unfit t l m)

        pub next_candidate : Candidate z.p z.n (value_of run)
        next_candidate = seek.run_values run sized below

        pub next_ready : {w : ℕ → ℕ} {j : ℕ} → Rose z.p z.n z.n (value_of run) w j → Candidate z.p z.n w
        next_ready R = rose_candidate R next_candidate (omega arith)

        module _ (answer : List ℕ) (e : given tt ≡ roomy z (length answer)) where
          is_v : Candidate (circuit_of s).p (circuit_of s).n (value_of run)
          is_v = rw (← Z.is_p, ← Z.is_n) next_candidate

          next_given : next_call s run (length answer) ≡ given (next_run (circuit_of s) run)
          next_given = rw (next_fit (length answer) e sized, none_unfit) refl

          least : IsLeast (Later (circuit_of s) run) (next_run (circuit_of s) run)
          least = next_least (circuit_of s) positive run (omega (arith, Z.is_n, sized))

          pub next_found : {w : ℕ → ℕ} {j : ℕ} → Rose z.p z.n z.n (value_of run) w j → {found : Bool} {left : List ℕ}
              → Seeks (circuit_of s) w answer found left → Answers (next_call s run (length answer)) answer (paper_of (run_answer (Ok found)) left) left
          next_found R S = rw next_given (seek.next_answers positive run is_v (rw (Z.is_p, Z.is_n) at R) least S)

          pub next_ended : {w : ℕ → ℕ} → Ended z.p z.n z.n (value_of run) w → Answers (next_call s run (length answer)) answer (given none) answer
          next_ended E = rw next_given (seek.over_answers positive run is_v (rw (Z.is_p, Z.is_n) at E) least answer)

-- ---- on all bytes

-- the circuit's refusal is the call's
pub first_stopped : (s answer : List ℕ) {number place : ℕ} → refused number place ≡ circuit_call s
    → Answers (first_call s (length answer)) answer (refused number place) answer
unfolding first_call
first_stopped s answer f = refused_answers answer (sym (on_refused s _ f))

pub next_stopped : (s run answer : List ℕ) {number place : ℕ} → refused number place ≡ circuit_call s
    → Answers (next_call s run (length answer)) answer (refused number place) answer
unfolding next_call
next_stopped s run answer f = refused_answers answer (sym (on_refused s _ f))

-- the answer is what the call is for
pub first_says : (s : List ℕ) (room : ℕ) {r : Answer Found} → r ≡ first_call s room → FirstAnswer s room r
first_says s room e = rw e (first_answer s room)

pub next_says : (s run : List ℕ) (room : ℕ) {r : Answer Found} → r ≡ next_call s run room → NextAnswer s run room r
next_says s run room e = rw e (next_answer s run room)

pub first_lists : (s : List ℕ) (room : ℕ) {r : Answer Found} → r ≡ first_call s room → ListedAnswer s room r
first_lists s room e = rw e (listed_answer s room)
