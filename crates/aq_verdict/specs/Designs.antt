-- A design value as the book of rules has it.
use Rattle.aq_rules.specs.DesignValues.{DesignValue as Design, OfOzone, OfAnnual, OfDaily, OfPm10}
use Rattle.aq_verdict.specs.declared.design_value.DesignValue.{DesignValue}
use Rattle.aq_verdict.specs.declared.design_value.DesignValue.TheVariants.{Ozone, Annual, Daily, Pm10}

abbrev pub design_of : DesignValue → Design
design_of (Ozone years design) = OfOzone years design
design_of (Annual years design) = OfAnnual years design
design_of (Daily years design) = OfDaily years design
design_of (Pm10 years design) = OfPm10 years design
