-- The codes of refusals: how one is spelled, and which are raised by an evaluation.
use Rattle.std.specs.Prelude.{ℕ, List, codes, Bool, true, false, not}
use Rattle.gx_base.specs.declared.code.Code.{Code}
use Rattle.gx_base.specs.declared.code.Code.TheVariants.{XPST0003, XPST0005, XPST0008, XPST0017, XPST0051, XPST0080, XPST0081, XPTY0004, XPTY0018, XPTY0019, XPTY0020, XPDY0002, XQST0022, XQST0033, XQST0034, XQST0039, XQST0040, XQST0045, XQST0049, XQST0054, XQST0057, XQST0058, XQST0059, XQST0070, XQST0071, XQST0085, XQST0089, XQST0090, XQTY0024, XQDY0044, FOTY0012, FORG0006, SENR0001, GLXS0001, GLXS0002, GLXS0003, GLXS0004, FOAR0001, FOAR0002, FORG0001, FORG0003, FORG0004, FORG0005, FOCA0001, FOCA0003, FOCA0006, FOCH0001, FOCH0003, FOER0000, XPDY0050, XQDY0025, GLXD0001, GLXD0002, GLXD0003}

-- the eight characters of a code
abbrev pub spelling : Code → List ℕ
spelling XPST0003 = codes "XPST0003"
spelling XPST0005 = codes "XPST0005"
spelling XPST0008 = codes "XPST0008"
spelling XPST0017 = codes "XPST0017"
spelling XPST0051 = codes "XPST0051"
spelling XPST0080 = codes "XPST0080"
spelling XPST0081 = codes "XPST0081"
spelling XPTY0004 = codes "XPTY0004"
spelling XPTY0018 = codes "XPTY0018"
spelling XPTY0019 = codes "XPTY0019"
spelling XPTY0020 = codes "XPTY0020"
spelling XPDY0002 = codes "XPDY0002"
spelling XQST0022 = codes "XQST0022"
spelling XQST0033 = codes "XQST0033"
spelling XQST0034 = codes "XQST0034"
spelling XQST0039 = codes "XQST0039"
spelling XQST0040 = codes "XQST0040"
spelling XQST0045 = codes "XQST0045"
spelling XQST0049 = codes "XQST0049"
spelling XQST0054 = codes "XQST0054"
spelling XQST0057 = codes "XQST0057"
spelling XQST0058 = codes "XQST0058"
spelling XQST0059 = codes "XQST0059"
spelling XQST0070 = codes "XQST0070"
spelling XQST0071 = codes "XQST0071"
spelling XQST0085 = codes "XQST0085"
spelling XQST0089 = codes "XQST0089"
spelling XQST0090 = codes "XQST0090"
spelling XQTY0024 = codes "XQTY0024"
spelling XQDY0044 = codes "XQDY0044"
spelling FOTY0012 = codes "FOTY0012"
spelling FORG0006 = codes "FORG0006"
spelling SENR0001 = codes "SENR0001"
spelling GLXS0001 = codes "GLXS0001"
spelling GLXS0002 = codes "GLXS0002"
spelling GLXS0003 = codes "GLXS0003"
spelling GLXS0004 = codes "GLXS0004"
spelling FOAR0001 = codes "FOAR0001"
spelling FOAR0002 = codes "FOAR0002"
spelling FORG0001 = codes "FORG0001"
spelling FORG0003 = codes "FORG0003"
spelling FORG0004 = codes "FORG0004"
spelling FORG0005 = codes "FORG0005"
spelling FOCA0001 = codes "FOCA0001"
spelling FOCA0003 = codes "FOCA0003"
spelling FOCA0006 = codes "FOCA0006"
spelling FOCH0001 = codes "FOCH0001"
spelling FOCH0003 = codes "FOCH0003"
spelling FOER0000 = codes "FOER0000"
spelling XPDY0050 = codes "XPDY0050"
spelling XQDY0025 = codes "XQDY0025"
spelling GLXD0001 = codes "GLXD0001"
spelling GLXD0002 = codes "GLXD0002"
spelling GLXD0003 = codes "GLXD0003"

-- the codes of dynamic errors, which an evaluation raises (XQuery 1.0, section 2.3.1)
abbrev pub is_dynamic : Code → Bool
is_dynamic FOAR0001 = true
is_dynamic FOAR0002 = true
is_dynamic FORG0001 = true
is_dynamic FORG0003 = true
is_dynamic FORG0004 = true
is_dynamic FORG0005 = true
is_dynamic FOCA0001 = true
is_dynamic FOCA0003 = true
is_dynamic FOCA0006 = true
is_dynamic FOCH0001 = true
is_dynamic FOCH0003 = true
is_dynamic FOER0000 = true
is_dynamic XPDY0050 = true
is_dynamic XQDY0025 = true
is_dynamic GLXD0001 = true
is_dynamic GLXD0002 = true
is_dynamic GLXD0003 = true
is_dynamic _ = false

-- the codes of static errors and of type errors, with which a query is refused before it is evaluated
abbrev pub is_static : Code → Bool
is_static code = not (is_dynamic code)
