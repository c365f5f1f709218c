-- The codes of refusals as they are printed.
use Rattle.std.specs.Prelude.{List, [], ℕ, codes}
use Rattle.bz_base.specs.declared.refusals.Code.{Code}
use Rattle.bz_base.specs.declared.refusals.Refusal.{Refusal}
use Rattle.bz_base.specs.declared.refusals.Code.TheVariants.{NoRoot, Lex, Syntax, Dialect, Unbound}
use Rattle.bz_base.specs.declared.refusals.Code.TheVariants.{Steps, Size, Depth, Fault, Fail}
use Rattle.bz_base.specs.declared.refusals.Code.TheVariants.{BadValue, ModuleLate, BadName}
use Rattle.bz_base.specs.declared.refusals.Code.TheVariants.{BadVersion, Left, DoubleOverride}
use Rattle.bz_base.specs.declared.refusals.Code.TheVariants.{FewVersions, NoVersion, NoModule}
use Rattle.bz_base.specs.declared.refusals.Code.TheVariants.{BadSource, NameDiffers, SourceNotLocal}
use Rattle.bz_base.specs.declared.refusals.Code.TheVariants.{TooMany, NotInGraph, Levels}
use Rattle.bz_base.specs.declared.refusals.Code.TheVariants.{AboveAllowed, NameTaken, BadLabel}
use Rattle.bz_base.specs.declared.refusals.Code.TheVariants.{NotVisible, HostNotModule, NoRepo}
use Rattle.bz_base.specs.declared.refusals.Code.TheVariants.{NoFile, LoadCycle, NoName, NoExtension}
use Rattle.bz_base.specs.declared.refusals.Code.TheVariants.{NoClass, NoAttr, Missing, WrongType}
use Rattle.bz_base.specs.declared.refusals.Code.TheVariants.{NotAllowed, RepoTwice, NotExported}
use Rattle.bz_base.specs.declared.refusals.Code.TheVariants.{NotHere, Unsupported, NotText, BadPath}
use Rattle.bz_base.specs.declared.refusals.Code.TheVariants.{NoFetch, NotGenerated, OverrideMissing}
use Rattle.bz_base.specs.declared.refusals.Code.TheVariants.{InjectTaken, Cycle, LockBad, TooLarge}
use Rattle.bz_base.specs.declared.refusals.Code.TheVariants.{Form, Untidy, TidyUnknown, TidyTaken}
use Rattle.bz_base.specs.declared.refusals.Code.TheVariants.{NotSelected, NoPath, NotMade}
use Rattle.bz_base.specs.declared.refusals.Code.TheVariants.{VendorBad, NotVendored, VendorDiffers}

-- a refusal of this code with no place and no detail
abbrev pub refusal_of : Code → Refusal
refusal_of code = record { code = code; file = []; line = 0; detail = []; hint = 0 }

-- a code as it is printed
abbrev pub code_name : Code → List ℕ
code_name NoRoot = codes "NoRoot"
code_name Lex = codes "Lex"
code_name Syntax = codes "Syntax"
code_name Dialect = codes "Dialect"
code_name Unbound = codes "Unbound"
code_name Steps = codes "Steps"
code_name Size = codes "Size"
code_name Depth = codes "Depth"
code_name Fault = codes "Fault"
code_name Fail = codes "Fail"
code_name BadValue = codes "BadValue"
code_name ModuleLate = codes "ModuleLate"
code_name BadName = codes "BadName"
code_name BadVersion = codes "BadVersion"
code_name Left = codes "Left"
code_name DoubleOverride = codes "DoubleOverride"
code_name FewVersions = codes "FewVersions"
code_name NoVersion = codes "NoVersion"
code_name NoModule = codes "NoModule"
code_name BadSource = codes "BadSource"
code_name NameDiffers = codes "NameDiffers"
code_name SourceNotLocal = codes "SourceNotLocal"
code_name TooMany = codes "TooMany"
code_name NotInGraph = codes "NotInGraph"
code_name Levels = codes "Levels"
code_name AboveAllowed = codes "AboveAllowed"
code_name NameTaken = codes "NameTaken"
code_name BadLabel = codes "BadLabel"
code_name NotVisible = codes "NotVisible"
code_name HostNotModule = codes "HostNotModule"
code_name NoRepo = codes "NoRepo"
code_name NoFile = codes "NoFile"
code_name LoadCycle = codes "LoadCycle"
code_name NoName = codes "NoName"
code_name NoExtension = codes "NoExtension"
code_name NoClass = codes "NoClass"
code_name NoAttr = codes "NoAttr"
code_name Missing = codes "Missing"
code_name WrongType = codes "WrongType"
code_name NotAllowed = codes "NotAllowed"
code_name RepoTwice = codes "RepoTwice"
code_name NotExported = codes "NotExported"
code_name NotHere = codes "NotHere"
code_name Unsupported = codes "Unsupported"
code_name NotText = codes "NotText"
code_name BadPath = codes "BadPath"
code_name NoFetch = codes "NoFetch"
code_name NotGenerated = codes "NotGenerated"
code_name OverrideMissing = codes "OverrideMissing"
code_name InjectTaken = codes "InjectTaken"
code_name Cycle = codes "Cycle"
code_name LockBad = codes "LockBad"
code_name TooLarge = codes "TooLarge"
code_name Form = codes "Form"
code_name Untidy = codes "Untidy"
code_name TidyUnknown = codes "TidyUnknown"
code_name TidyTaken = codes "TidyTaken"
code_name NotSelected = codes "NotSelected"
code_name NoPath = codes "NoPath"
code_name NotMade = codes "NotMade"
code_name VendorBad = codes "VendorBad"
code_name NotVendored = codes "NotVendored"
code_name VendorDiffers = codes "VendorDiffers"
