pub mod Reading
pub mod SampleFiles
