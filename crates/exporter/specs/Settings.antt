-- The settings of an export. Document 01, 'Export': 'Settings start from the Rust's defaults: version 2.0, binary, strict.'
use Rattle.header_values.specs.Kinds.{of_place}
use Rattle.exporter.specs.declared.ExportSettings.{ExportSettings}
use Rattle.exported.specs.Settings.{Settings, settings}

abbrev pub of_settings : ExportSettings → Settings
of_settings s = settings s.version s.ascii (of_place s.dd)
