-- The circuits of the table: those of cases a to g (Rule 7.4), one that nothing satisfies, a copy of an input, headers alone, bits as inputs with their tags,
-- and divisions (Rule 7.13).
use Rattle.std.specs.Prelude.{ℕ, ◌-◌, Bool, true, false, List, [], ◌∷◌, ◌++◌, length}
use Rattle.circuit.specs.Circuit.{Term, Form, Constraint, Circuit}
use Rattle.tags.specs.Tag.{Binary, Maxbit, Maxvalue, Tag}

abbrev pub times : ℕ → ℕ → Term
times c s = record { signal = s; coefficient = c }

-- the constant
abbrev pub one : ℕ → Term
one c = record { signal = 0; coefficient = c }

abbrev pub product : Form → Form → Form → Constraint
product a b c = record { a = a; b = b; c = c }

-- a: output 2 is the square of input 1
abbrev pub circuit_a : Circuit
circuit_a =
    record { p = 7; n = 2; i = 1; o = 1; m = 1; constraints = product (times 1 1 ∷ []) (times 1 1 ∷ []) (times 1 2 ∷ []) ∷ [] }

-- b: signal 3 times itself less one is minus input 1; output 2 is signal 3 and one more
abbrev pub circuit_b : Circuit
circuit_b =
    record {
      p = 7;
      n = 3;
      i = 1;
      o = 1;
      m = 2;
      constraints =
          product (times 1 3 ∷ []) (one 6 ∷ times 1 3 ∷ []) (times 6 1 ∷ [])
          ∷ product (one 1 ∷ []) (one 1 ∷ times 6 2 ∷ times 1 3 ∷ []) []
          ∷ [];
    }

-- signal s is 0 or 1
abbrev pub binary : ℕ → ℕ → Constraint
binary p s = product (times 1 s ∷ []) (one (p - 1) ∷ times 1 s ∷ []) []

-- input 1 and its three bits, outputs 2 to 4, over p
abbrev pub digits : ℕ → Circuit
digits p =
    record {
      p = p;
      n = 4;
      i = 1;
      o = 3;
      m = 4;
      constraints =
          binary p 2 ∷ binary p 3 ∷ binary p 4
          ∷ product (one 1 ∷ []) (times (p - 1) 1 ∷ times 1 2 ∷ times 2 3 ∷ times 4 4 ∷ []) []
          ∷ [];
    }

-- c
abbrev pub circuit_c : Circuit
circuit_c = digits 13

-- d
abbrev pub circuit_d : Circuit
circuit_d = digits 7

-- e: the square of the only signal is 0
abbrev pub circuit_e : Circuit
circuit_e = record { p = 5; n = 1; i = 0; o = 1; m = 1; constraints = product (times 1 1 ∷ []) (times 1 1 ∷ []) [] ∷ [] }

-- f: the square of the only signal is the signal
abbrev pub circuit_f : Circuit
circuit_f =
    record { p = 5; n = 1; i = 0; o = 1; m = 1; constraints = product (times 1 1 ∷ []) (times 1 1 ∷ []) (times 1 1 ∷ []) ∷ [] }

-- g: input 1 times signal 3 is 1 less output 2; input 1 times output 2 is 0
abbrev pub circuit_g : Circuit
circuit_g =
    record {
      p = 7;
      n = 3;
      i = 1;
      o = 1;
      m = 2;
      constraints =
          product (times 1 1 ∷ []) (times 1 3 ∷ []) (one 1 ∷ times 6 2 ∷ [])
          ∷ product (times 1 1 ∷ []) (times 1 2 ∷ []) []
          ∷ [];
    }

-- 1 · 1 = 0: nothing satisfies it
abbrev pub never : Circuit
never = record { p = 5; n = 1; i = 0; o = 1; m = 1; constraints = product (one 1 ∷ []) (one 1 ∷ []) [] ∷ [] }

-- output 2 equals input 1, by a linear constraint: A is the constant and B the input, or the other way about
abbrev pub copy : Bool → Circuit
copy true = record { p = 7; n = 2; i = 1; o = 1; m = 1; constraints = product (one 1 ∷ []) (times 1 1 ∷ []) (times 1 2 ∷ []) ∷ [] }
copy false = record { p = 7; n = 2; i = 1; o = 1; m = 1; constraints = product (times 1 1 ∷ []) (one 1 ∷ []) (times 1 2 ∷ []) ∷ [] }

-- j: p and n as given, one output and no constraint
abbrev pub bare : ℕ → ℕ → Circuit
bare p n = record { p = p; n = n; i = 0; o = 1; m = 0; constraints = [] }

-- three bits as inputs and the number that they make, output 4, over 13: its sum is below 13 only thanks to tags on the inputs
abbrev pub bits : Circuit
bits =
    record {
      p = 13;
      n = 4;
      i = 3;
      o = 1;
      m = 1;
      constraints = product (one 1 ∷ []) (times 1 1 ∷ times 2 2 ∷ times 4 3 ∷ times 12 4 ∷ []) [] ∷ [];
    }

-- two bits, signals 3 and 5, and the number 4 that input 2 and bit 3 make; input 1 is 4 and three times bit 5, over 7: marked only if input 2 is small
abbrev pub carry : Circuit
carry =
    record {
      p = 7;
      n = 5;
      i = 2;
      o = 3;
      m = 4;
      constraints =
          binary 7 3 ∷ binary 7 5
          ∷ product (one 1 ∷ []) (times 1 2 ∷ times 1 3 ∷ times 6 4 ∷ []) []
          ∷ product (one 1 ∷ []) (times 6 1 ∷ times 1 4 ∷ times 3 5 ∷ []) []
          ∷ [];
    }

-- signals s and u are inverses of each other
abbrev pub inverses : ℕ → ℕ → Constraint
inverses s u = product (times 1 s ∷ []) (times 1 u ∷ []) (one 1 ∷ [])

-- two signals, with this many inputs and outputs, over 7
abbrev pub two : ℕ → ℕ → List Constraint → Circuit
two i o Ks = record { p = 7; n = 2; i = i; o = o; m = length Ks; constraints = Ks }

-- the inverse gadget: output 2 is the inverse of input 1; or both are outputs
abbrev pub inverse_of : Circuit
inverse_of = two 1 1 (inverses 1 2 ∷ [])

abbrev pub inverse_free : Circuit
inverse_free = two 0 2 (inverses 1 2 ∷ [])

-- output 2 is the inverse of input 1 and equals it
abbrev pub inverse_equal : Circuit
inverse_equal = two 1 1 (inverses 1 2 ∷ product (one 1 ∷ []) (times 1 1 ∷ []) (times 1 2 ∷ []) ∷ [])

-- one more than input 1 times output 2 is 1
abbrev pub shifted : Circuit
shifted = two 1 1 (product (one 1 ∷ times 1 1 ∷ []) (times 1 2 ∷ []) (one 1 ∷ []) ∷ [])

-- input 1 is its own inverse
abbrev pub own_inverse : Circuit
own_inverse = two 1 1 (inverses 1 1 ∷ [])

-- the only signal is 1
abbrev pub only_one : Circuit
only_one = record { p = 7; n = 1; i = 0; o = 1; m = 1; constraints = product (one 1 ∷ []) (times 1 1 ∷ []) (one 1 ∷ []) ∷ [] }

-- signal 3 is the inverse of input 1, and input 1 times output 2 is output 2
abbrev pub times_itself : Circuit
times_itself =
    record {
      p = 7;
      n = 3;
      i = 1;
      o = 1;
      m = 2;
      constraints = inverses 1 3 ∷ product (times 1 1 ∷ []) (times 1 2 ∷ []) (times 1 2 ∷ []) ∷ [];
    }

-- input 1 divided by input 2, whose inverse is signal 4: the quotient is output 3
abbrev pub quotient_of : Circuit
quotient_of =
    record {
      p = 7;
      n = 4;
      i = 2;
      o = 1;
      m = 2;
      constraints = inverses 2 4 ∷ product (times 1 2 ∷ []) (times 1 3 ∷ []) (times 1 1 ∷ []) ∷ [];
    }

-- the same without the inverse: input 2 may be 0
abbrev pub quotient_free : Circuit
quotient_free =
    record { p = 7; n = 3; i = 2; o = 1; m = 1; constraints = product (times 1 2 ∷ []) (times 1 3 ∷ []) (times 1 1 ∷ []) ∷ [] }

-- twice input 2 times a form is 3, and another form times three times input 2 is a third: no coefficient is 1 where that would do
abbrev pub wide_quotients : Circuit
wide_quotients =
    record {
      p = 7;
      n = 4;
      i = 2;
      o = 1;
      m = 2;
      constraints =
          product (times 2 2 ∷ []) (one 1 ∷ times 1 1 ∷ times 3 4 ∷ []) (one 3 ∷ [])
          ∷ product (one 2 ∷ times 1 1 ∷ times 5 3 ∷ []) (times 3 2 ∷ []) (times 1 1 ∷ times 4 4 ∷ [])
          ∷ [];
    }

-- case g, the is-zero gadget, with an inverse of its input as signal 4
abbrev pub guarded : Circuit
guarded = record { p = 7; n = 4; i = 1; o = 1; m = 3; constraints = circuit_g.constraints ++ inverses 1 4 ∷ [] }

-- tags of a sheet
abbrev pub is_binary : ℕ → Tag
is_binary s = record { signal = s; kind = Binary; number = 0 }

abbrev pub has_bits : ℕ → ℕ → Tag
has_bits s v = record { signal = s; kind = Maxbit; number = v }

abbrev pub is_most : ℕ → ℕ → Tag
is_most s v = record { signal = s; kind = Maxvalue; number = v }
