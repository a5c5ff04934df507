pub mod CertificateParts
pub mod CertificateReports
pub mod CertificateRules
pub mod Normals
pub mod Parts
pub mod Texts
