pub mod CertificateRecords
pub mod OpenValues
