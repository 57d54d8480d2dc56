-- The registers of the code, by the names of the definitions.
use Rattle.rv_devices.specs.declared.register.Register.{Register}
use Rattle.rv_devices.specs.declared.register.Register.TheVariants as code
use Rattle.machine_model.specs.Board as model

abbrev pub named : Register → model.Register
named code.CompareLow = model.CompareLow
named code.CompareHigh = model.CompareHigh
named code.TimeLow = model.TimeLow
named code.TimeHigh = model.TimeHigh
named code.SerialData = model.SerialData
named code.SerialStatus = model.SerialStatus
named code.SerialControl = model.SerialControl
named code.DiskSector = model.DiskSector
named code.DiskAddress = model.DiskAddress
named code.DiskCommand = model.DiskCommand
named code.DiskStatus = model.DiskStatus
named code.DiskControl = model.DiskControl
named code.DiskCount = model.DiskCount
named code.Power = model.Power
