pub mod RecordReports
