pub mod RegisterEvents
pub mod SecureBoot
pub mod FirmwareVersion
pub mod ImaMeasuring
pub mod ImaPolicy
pub mod CommonLengths
