-- What the names of attributes say, as the code sees them.
use Rattle.gx_xml.specs.declared.value.Purpose.{Purpose}
use Rattle.gx_xml.specs.declared.value.Purpose.TheVariants as purpose_is
use Rattle.gx_xml.specs.Tags.{default_namespace, namespace_of, ordinary}
use Rattle.gx_xml.specs.Characters.{spelled}
use Rattle.gx_xml.specs.Tags as tags

abbrev pub purpose_as : Purpose → tags.Purpose
purpose_as purpose_is.Default = default_namespace
purpose_as (purpose_is.Prefix p) = namespace_of (spelled p)
purpose_as purpose_is.Ordinary = ordinary
