-- The operations at the edges that the manual names, and at values with known answers.
use Rattle.std.proofs.Common.{◌≡◌, [], ◌∷◌, true, false, refl}
use Rattle.rv_decode.specs.declared.operations.AtomicOp.TheVariants as amo
use Rattle.rv_decode.specs.declared.operations.BranchOp.TheVariants.{Blt, Bge, Bltu, Bgeu}
use Rattle.rv_decode.specs.declared.operations.CsrOp.TheVariants.{Csrrs, Csrrc}
use Rattle.rv_decode.specs.declared.operations.LoadOp.TheVariants.{Lb, Lh, Lbu, Lhu}
use Rattle.rv_decode.specs.declared.operations.RegOp.TheVariants.{Sub, Sll, Slt, Sltu, Srl, Sra, Mul, Mulh, Mulhsu, Mulhu, Div, Divu, Rem, Remu}
use Rattle.hart_model.specs.Operations.{register_result, is_taken, load_result, swapped, csr_result}

-- the upper half of a product, with two signs, one and none
signed_products :
    register_result Mulh 0xaaaaaaab 0x0002fe7d ∷ register_result Mulh 0xff000000 0xff000000 ∷ register_result Mulh 0xffffffff 0xffffffff ∷ register_result Mulh 0x80000000 0x80000000 ∷ []
    ≡ 0xffff0081 ∷ 0x00010000 ∷ 0 ∷ 0x40000000 ∷ []
signed_products = refl

mixed_products :
    register_result Mulhsu 0xaaaaaaab 0x0002fe7d ∷ register_result Mulhsu 0x0002fe7d 0xaaaaaaab ∷ register_result Mulhsu 0xff000000 0xff000000 ∷ register_result Mulhsu 0xffffffff 0xffffffff ∷ []
    ≡ 0xffff0081 ∷ 0x0001fefe ∷ 0xff010000 ∷ 0xffffffff ∷ []
mixed_products = refl

unsigned_products :
    register_result Mulhu 0xaaaaaaab 0x0002fe7d ∷ register_result Mulhu 0xff000000 0xff000000 ∷ register_result Mulhu 0xffffffff 0xffffffff ∷ register_result Mul 0xffffffff 0xffffffff ∷ []
    ≡ 0x0001fefe ∷ 0xfe010000 ∷ 0xfffffffe ∷ 1 ∷ []
unsigned_products = refl

-- quotients go towards zero, and a remainder has its dividend's sign: 20 and -20 by 6 and -6
quotients :
    register_result Div 20 6 ∷ register_result Div 0xffffffec 6 ∷ register_result Div 20 0xfffffffa ∷ register_result Div 0xffffffec 0xfffffffa ∷ []
    ≡ 3 ∷ 0xfffffffd ∷ 0xfffffffd ∷ 3 ∷ []
quotients = refl

remainders :
    register_result Rem 20 6 ∷ register_result Rem 0xffffffec 6 ∷ register_result Rem 20 0xfffffffa ∷ register_result Rem 0xffffffec 0xfffffffa ∷ []
    ≡ 2 ∷ 0xfffffffe ∷ 2 ∷ 0xfffffffe ∷ []
remainders = refl

-- by zero, and the quotient that does not fit
no_quotients :
    register_result Div 0x80000000 0 ∷ register_result Divu 0x80000000 0 ∷ register_result Rem 0x80000000 0 ∷ register_result Remu 0x80000000 0 ∷ register_result Div 0x80000000 0xffffffff ∷ register_result Rem 0x80000000 0xffffffff ∷ []
    ≡ 0xffffffff ∷ 0xffffffff ∷ 0x80000000 ∷ 0x80000000 ∷ 0x80000000 ∷ 0 ∷ []
no_quotients = refl

-- shifts by 0, by 31, and by 32 + 14, which is by 14
shifts :
    register_result Sll 0x21212121 0 ∷ register_result Sll 0x21212121 31 ∷ register_result Sll 0x21212121 46 ∷ register_result Srl 0x80000000 31 ∷ register_result Sra 0x80000000 31 ∷ register_result Sra 0x7fffffff 31 ∷ register_result Sra 0x81818181 46 ∷ []
    ≡ 0x21212121 ∷ 0x80000000 ∷ 0x48484000 ∷ 1 ∷ 0xffffffff ∷ 0 ∷ 0xfffe0606 ∷ []
shifts = refl

-- -1 is below 1 as a signed number alone
comparisons :
    register_result Slt 0xffffffff 1 ∷ register_result Sltu 0xffffffff 1 ∷ register_result Sub 0 1 ∷ swapped amo.Min 0xffffffff 1 ∷ swapped amo.Max 0xffffffff 1 ∷ swapped amo.Minu 0xffffffff 1 ∷ swapped amo.Maxu 0xffffffff 1 ∷ []
    ≡ 1 ∷ 0 ∷ 0xffffffff ∷ 0xffffffff ∷ 1 ∷ 1 ∷ 0xffffffff ∷ []
comparisons = refl

branches : is_taken Blt 0xffffffff 1 ∷ is_taken Bge 0xffffffff 1 ∷ is_taken Bltu 0xffffffff 1 ∷ is_taken Bgeu 0xffffffff 1 ∷ [] ≡ true ∷ false ∷ false ∷ true ∷ []
branches = refl

-- narrow loads look at the low bits alone; a set and a clear of bits
loads :
    load_result Lb 0x1280 ∷ load_result Lbu 0x1280 ∷ load_result Lh 0x12348000 ∷ load_result Lhu 0x12348000 ∷ csr_result Csrrs 0xf0 0x3c ∷ csr_result Csrrc 0xf0 0x3c ∷ []
    ≡ 0xffffff80 ∷ 0x80 ∷ 0xffff8000 ∷ 0x8000 ∷ 0xfc ∷ 0xc0 ∷ []
loads = refl
