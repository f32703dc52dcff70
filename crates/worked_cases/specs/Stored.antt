-- Texts and networks made from a seed, with Quaigh's answers and document 02's start values (tests/oracle/checks). Assumes nothing: these
-- are definitions.
use Rattle.std.specs.Prelude.{true, false, List, [], ◌∷◌}
use Rattle.lists.specs.Lists.{bytes}
use Rattle.signal.specs.Signal.{Input, Var, plain, zero_s, one_s, invert}
use Rattle.gates.specs.Gate.{And3, Maj3, AndN, OrN, XnorN, Buf, Comb, Dff}
use Rattle.network.specs.Net.{net_from}
use Rattle.worked_cases.specs.Checks.{Check, reads, writes, network, number}

-- the checks
unfoldable pub stored : List Check
stored =
    reads (bytes ".model m # name\n.inputs a b\n") (network (net_from 2 ([]) ([])))
    ∷ reads (bytes ".model m # name\n.inputs a \\\nb\n.outputs w b\n.latch a c re\r\n.names b d b d\n") (number 34)
    ∷ reads (bytes ".model m # name\n.inputs a b c\n.outputs b c\n.names\n") (number 9)
    ∷ reads (bytes ".model m # name\n.inputs \n.model\n") (number 4)
    ∷ reads (bytes ".model m # name\n.inputs \n.names a b a\n.names c a a b\n0-1 1\n101 1\n.names a c\n\n# lines\n1 1\n0 1\n1 1\n.exdc\n.names q\n") (network (net_from 0 ((Comb Buf (zero_s ∷ [])) ∷ (Comb Buf ((plain (Var 0)) ∷ [])) ∷ (Comb Buf ((invert (plain (Var 0))) ∷ [])) ∷ (Comb Buf ((plain (Var 0)) ∷ [])) ∷ (Comb OrN ((plain (Var 1)) ∷ (plain (Var 2)) ∷ (plain (Var 3)) ∷ [])) ∷ (Comb AndN ((invert (plain (Var 4))) ∷ (plain (Var 0)) ∷ [])) ∷ (Comb AndN ((plain (Var 4)) ∷ (invert (plain (Var 0))) ∷ (plain (Var 0)) ∷ [])) ∷ (Comb OrN ((plain (Var 5)) ∷ (plain (Var 6)) ∷ [])) ∷ []) ([])))
    ∷ reads (bytes ".model m # name\n.inputs \n.latch a a 3\r\n.latch b b re clk\r\n.names a a\n- 1\n0 1\n1 1\n.gate\n") (number 5)
    ∷ reads (bytes ".model m # name\n.inputs a \\\nb\n.names a b c\n\n# lines\n.latch a a re clk\r\n") (number 10)
    ∷ reads (bytes ".model m # name\n.inputs a\n.outputs a a\n") (network (net_from 1 ([]) ((plain (Input 0)) ∷ (plain (Input 0)) ∷ [])))
    ∷ reads (bytes ".model m # name\n.inputs a \\\nb\n.names c b c\n11 1\n-0 1\n11 1\n.latch c d 1\r\n1 1\n.end\n.outputs q\n") (number 14)
    ∷ reads (bytes ".model m # name\n.inputs a b c\n.outputs b a\n.end\n.names\n1 1\n") (network (net_from 3 ([]) ((plain (Input 1)) ∷ (plain (Input 0)) ∷ [])))
    ∷ reads (bytes ".model m # name\n.inputs \n.names b a\n- 0\n.names b a b b\n101 1\n10- 0\n") (number 13)
    ∷ reads (bytes ".model m # name\n.inputs a\n.latch c b re clk 1\r\n.names a c\n\n# lines\n- 1\n.latch c d re clk\r\n1 1\n.end\n.outputs q\n") (network (net_from 1 ((Dff (record { data_in = plain (Var 2); enable = one_s; reset = zero_s; start = true })) ∷ (Dff (record { data_in = plain (Var 2); enable = one_s; reset = zero_s; start = false })) ∷ (Comb Buf (one_s ∷ [])) ∷ []) ([])))
    ∷ reads (bytes ".model m # name\n.inputs a \\\nb\n.outputs b a\n.names b b c\n1- 1\n10 1\n") (network (net_from 2 ((Comb Buf ((plain (Input 1)) ∷ [])) ∷ (Comb AndN ((plain (Input 1)) ∷ (invert (plain (Input 1))) ∷ [])) ∷ (Comb OrN ((plain (Var 0)) ∷ (plain (Var 1)) ∷ [])) ∷ []) ((plain (Input 1)) ∷ (plain (Input 0)) ∷ [])))
    ∷ reads (bytes ".model m # name\n.inputs a b\n") (network (net_from 2 ([]) ([])))
    ∷ reads (bytes ".model m # name\n.inputs a\n.model n\n") (number 7)
    ∷ reads (bytes ".model m # name\n.inputs a \\\nb \\\nc\n.outputs y b\n.names z z c d\n000 1\n-01 1\n.latch d y re clk 2\r\n.names d d d z\n110 1\n1--- 1\n-1- 1\n") (number 12)
    ∷ reads (bytes ".model m # name\n.inputs \n.outputs c b\n.latch a a re clk 1\r\n.names b b a b\n01- 1\n011 1\n.names  c\n 1\n 1\n") (number 14)
    ∷ reads (bytes ".model m # name\n.inputs \n.names a a a\n.names b b\n- 1\n0 1\n1 1\n") (number 14)
    ∷ reads (bytes ".inputs a b c\n.outputs c y\n.latch z d re clk 2\r\n.names  y\n 1\n 1\n 1\n.names z d z\n1- 1\n10 0\n.end\n.end\n") (number 8)
    ∷ reads (bytes ".model m # name\n.inputs a b\n.names y b a c\n\n# lines\n1-1 1\n110 1\n1-1 1\n.latch c d re clk 1\r\n.latch d y 3\r\n") (network (net_from 2 ((Dff (record { data_in = plain (Var 5); enable = one_s; reset = zero_s; start = true })) ∷ (Dff (record { data_in = plain (Var 0); enable = one_s; reset = zero_s; start = false })) ∷ (Comb AndN ((plain (Var 1)) ∷ (plain (Input 0)) ∷ [])) ∷ (Comb AndN ((plain (Var 1)) ∷ (plain (Input 1)) ∷ (invert (plain (Input 0))) ∷ [])) ∷ (Comb AndN ((plain (Var 1)) ∷ (plain (Input 0)) ∷ [])) ∷ (Comb OrN ((plain (Var 2)) ∷ (plain (Var 3)) ∷ (plain (Var 4)) ∷ [])) ∷ []) ([])))
    ∷ reads (bytes ".model m # name\n.inputs a\n.names b b\n- 0\n") (network (net_from 1 ((Comb Buf (zero_s ∷ [])) ∷ []) ([])))
    ∷ reads (bytes ".model m # name\n.inputs a b\n.names b c\n.names b b b d\n10- 1\n111 1\n-10 1\n1 1\n.end\n.outputs q\n") (number 12)
    ∷ reads (bytes ".inputs a\n.latch a b 0\r\n.end\n.names\n1 1\n") (number 8)
    ∷ reads (bytes ".model m # name\n.inputs a\n.outputs a b\n.names  b\n") (network (net_from 1 ((Comb Buf (zero_s ∷ [])) ∷ []) ((plain (Input 0)) ∷ (plain (Var 0)) ∷ [])))
    ∷ reads (bytes ".model m # name\n.inputs a b\n.latch y c re clk 1\r\n.latch a d 0\r\n.names c y y\n-1- 1\n.names\n") (number 9)
    ∷ reads (bytes ".model m # name\n.inputs a\n.outputs b a\n.names b a b\n.latch a\n") (number 4)
    ∷ reads (bytes ".model m # name\n.inputs a b c\n.outputs c b\n.end\n2 2\n.latch q\n") (number 4)
    ∷ reads (bytes ".model m # name\n.inputs \n.outputs w w\n") (number 11)
    ∷ reads (bytes ".model m # name\n.inputs \n.names  a\n 1\n 1\n 1\n.names c a a b\n110 1\n1-0 1\n0-- 1\n.latch c c 1\r\n") (network (net_from 0 ((Dff (record { data_in = plain (Var 0); enable = one_s; reset = zero_s; start = true })) ∷ (Comb Buf (one_s ∷ [])) ∷ (Comb Buf (one_s ∷ [])) ∷ (Comb Buf (one_s ∷ [])) ∷ (Comb OrN ((plain (Var 1)) ∷ (plain (Var 2)) ∷ (plain (Var 3)) ∷ [])) ∷ (Comb AndN ((plain (Var 0)) ∷ (plain (Var 4)) ∷ (invert (plain (Var 4))) ∷ [])) ∷ (Comb AndN ((plain (Var 0)) ∷ (invert (plain (Var 4))) ∷ [])) ∷ (Comb Buf ((invert (plain (Var 0))) ∷ [])) ∷ (Comb OrN ((plain (Var 5)) ∷ (plain (Var 6)) ∷ (plain (Var 7)) ∷ [])) ∷ []) ([])))
    ∷ reads (bytes ".inputs a\n.latch b b 0\r\n") (network (net_from 1 ((Dff (record { data_in = plain (Var 0); enable = one_s; reset = zero_s; start = false })) ∷ []) ([])))
    ∷ reads (bytes ".model m # name\n.inputs a\n.outputs a z\n.end\n.end\n") (number 11)
    ∷ reads (bytes ".inputs a\n.outputs a b\n.names c c b\n0- 1\n-1 1\n.names b c\n\n# lines\n") (network (net_from 1 ((Comb Buf (zero_s ∷ [])) ∷ (Comb Buf ((invert (plain (Var 0))) ∷ [])) ∷ (Comb Buf ((plain (Var 0)) ∷ [])) ∷ (Comb OrN ((plain (Var 1)) ∷ (plain (Var 2)) ∷ [])) ∷ []) ((plain (Input 0)) ∷ (plain (Var 3)) ∷ [])))
    ∷ writes (net_from 0 ([]) ([])) (bytes "# .blif file\n# Generated by quaigh\n\n.model quaigh\n\n.inputs\n\n.outputs\n\n\n.names vdd\n1\n.names gnd\n")
    ∷ writes (net_from 1 ((Comb Maj3 ((invert (plain (Input 0))) ∷ zero_s ∷ zero_s ∷ [])) ∷ []) ((plain (Input 0)) ∷ [])) (bytes "# .blif file\n# Generated by quaigh\n\n.model quaigh\n\n.inputs i0\n\n.outputs i0\n\n\n.names i0_n gnd gnd x0\n11- 1\n-11 1\n1-1 1\n.names i0 i0_n\n0 1\n.names vdd\n1\n.names gnd\n")
    ∷ writes (net_from 2 ((Dff (record { data_in = invert (plain (Var 0)); enable = one_s; reset = zero_s; start = false })) ∷ (Dff (record { data_in = plain (Var 0); enable = one_s; reset = zero_s; start = false })) ∷ []) ((plain (Input 1)) ∷ (plain (Var 1)) ∷ [])) (bytes "# .blif file\n# Generated by quaigh\n\n.model quaigh\n\n.inputs i0 i1\n\n.outputs i1 x1\n\n.latch x0_n x0 0\n.latch x0 x1 0\n\n.names x0 x0_n\n0 1\n.names vdd\n1\n.names gnd\n")
    ∷ writes (net_from 3 ((Comb OrN ((plain (Var 2)) ∷ (plain (Input 0)) ∷ (plain (Var 2)) ∷ [])) ∷ (Comb AndN ([])) ∷ (Comb Maj3 ((invert (plain (Input 2))) ∷ (plain (Input 2)) ∷ (plain (Input 0)) ∷ [])) ∷ []) ([])) (bytes "# .blif file\n# Generated by quaigh\n\n.model quaigh\n\n.inputs i0 i1 i2\n\n.outputs\n\n\n.names x2 i0 x2 x0\n000 0\n.names x1\n 1\n.names i2_n i2 i0 x2\n11- 1\n-11 1\n1-1 1\n.names i2 i2_n\n0 1\n.names vdd\n1\n.names gnd\n")
    ∷ writes (net_from 0 ((Dff (record { data_in = invert (plain (Var 3)); enable = one_s; reset = zero_s; start = false })) ∷ (Dff (record { data_in = plain (Var 2); enable = one_s; reset = zero_s; start = true })) ∷ (Dff (record { data_in = zero_s; enable = one_s; reset = zero_s; start = false })) ∷ (Dff (record { data_in = plain (Var 2); enable = one_s; reset = zero_s; start = true })) ∷ []) ((plain (Var 1)) ∷ [])) (bytes "# .blif file\n# Generated by quaigh\n\n.model quaigh\n\n.inputs\n\n.outputs x1\n\n.latch x3_n x0 0\n.latch x2 x1 1\n.latch gnd x2 0\n.latch x2 x3 1\n\n.names x3 x3_n\n0 1\n.names vdd\n1\n.names gnd\n")
    ∷ writes (net_from 1 ([]) (one_s ∷ zero_s ∷ [])) (bytes "# .blif file\n# Generated by quaigh\n\n.model quaigh\n\n.inputs i0\n\n.outputs vdd gnd\n\n\n.names vdd\n1\n.names gnd\n")
    ∷ writes (net_from 2 ((Comb And3 (one_s ∷ zero_s ∷ (invert (plain (Var 0))) ∷ [])) ∷ []) ([])) (bytes "# .blif file\n# Generated by quaigh\n\n.model quaigh\n\n.inputs i0 i1\n\n.outputs\n\n\n.names vdd gnd x0_n x0\n111 1\n.names x0 x0_n\n0 1\n.names vdd\n1\n.names gnd\n")
    ∷ writes (net_from 3 ((Dff (record { data_in = plain (Input 0); enable = one_s; reset = zero_s; start = true })) ∷ (Comb XnorN ((invert (plain (Var 0))) ∷ [])) ∷ []) ((plain (Input 2)) ∷ [])) (bytes "# .blif file\n# Generated by quaigh\n\n.model quaigh\n\n.inputs i0 i1 i2\n\n.outputs i2\n\n.latch i0 x0 1\n\n.names x0_n x1\n0 1\n.names x0 x0_n\n0 1\n.names vdd\n1\n.names gnd\n")
    ∷ []
