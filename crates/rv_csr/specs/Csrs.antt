-- The control and status registers after reset. (Privileged manual, 3.4.)
use Rattle.std.specs.Prelude.{false}
use Rattle.rv_csr.specs.declared.csrs.Csrs.{Csrs}

-- interrupts are off and all else is 0, which the manual leaves open
abbrev pub reset : Csrs
reset =
    record {
      interrupts = false;
      interrupts_before = false;
      timer_enabled = false;
      external_enabled = false;
      mtvec = 0;
      mscratch = 0;
      mepc = 0;
      mcause = 0;
      mtval = 0;
      mcycle = 0;
      minstret = 0;
      mcycle_written = false;
      minstret_written = false;
    }
